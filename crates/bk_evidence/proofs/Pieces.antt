-- Pieces that are written one after another.
use Rattle.std.proofs.Common.{◌≡◌, ℕ, ◌+◌, ◌<◌, Bool, true, false, cond, List, [], ◌∷◌, ◌++◌, length, take, get_or, sym, ◌∙◌, ap, append_assoc, append-nil}
use Rattle.std.specs.List.{flat_map}
use Rattle.std.proofs.lemmas.List.{take_more, flat_map_more}

pub two_pieces : (text one new a b : List ℕ) → one ≡ text ++ a → new ≡ one ++ b → new ≡ text ++ (a ++ b)
two_pieces text one new a b e f = f ∙ ap (λ t. t ++ b) e ∙ append_assoc text a b

three-in-row : (text a b c : List ℕ) → ((text ++ a) ++ b) ++ c ≡ text ++ (a ++ b ++ c)
three-in-row text a b c = simp append_assoc

pub three_pieces : (text one two new a b c : List ℕ) → one ≡ text ++ a → two ≡ one ++ b → new ≡ two ++ c → new ≡ text ++ (a ++ b ++ c)
three_pieces text one two new a b c e f g = (g ∙ ap (λ t. t ++ c) (f ∙ ap (λ t. t ++ b) e)) ∙ three-in-row text a b c

four-in-row : (text a b c d : List ℕ) → (((text ++ a) ++ b) ++ c) ++ d ≡ text ++ (a ++ b ++ c ++ d)
four-in-row text a b c d = simp append_assoc

pub four_pieces : (text one two three new a b c d : List ℕ) → one ≡ text ++ a → two ≡ one ++ b → three ≡ two ++ c → new ≡ three ++ d → new ≡ text ++ (a ++ b ++ c ++ d)
four_pieces text one two three new a b c d e f g h =
    (h ∙ ap (λ t. t ++ d) (g ∙ ap (λ t. t ++ c) (f ∙ ap (λ t. t ++ b) e))) ∙ four-in-row text a b c d

five-in-row : (text a b c d e : List ℕ) → ((((text ++ a) ++ b) ++ c) ++ d) ++ e ≡ text ++ (a ++ b ++ c ++ d ++ e)
five-in-row text a b c d e = simp append_assoc

pub five_pieces : (text one two three four new a b c d e : List ℕ) → one ≡ text ++ a → two ≡ one ++ b → three ≡ two ++ c → four ≡ three ++ d → new ≡ four ++ e → new ≡ text ++ (a ++ b ++ c ++ d ++ e)
five_pieces text one two three four new a b c d e f g h k l =
    (l ∙ ap (λ t. t ++ e) (k ∙ ap (λ t. t ++ d) (h ∙ ap (λ t. t ++ c) (g ∙ ap (λ t. t ++ b) f)))) ∙ five-in-row text a b c d e

six-in-row : (text a b c d e f : List ℕ) → (((((text ++ a) ++ b) ++ c) ++ d) ++ e) ++ f ≡ text ++ (a ++ b ++ c ++ d ++ e ++ f)
six-in-row text a b c d e f = simp append_assoc

pub six_pieces : (text one two three four five new a b c d e f : List ℕ) → one ≡ text ++ a → two ≡ one ++ b → three ≡ two ++ c → four ≡ three ++ d → five ≡ four ++ e → new ≡ five ++ f → new ≡ text ++ (a ++ b ++ c ++ d ++ e ++ f)
six_pieces text one two three four five new a b c d e f g h k l m n =
    (n ∙ ap (λ t. t ++ f) (m ∙ ap (λ t. t ++ e) (l ∙ ap (λ t. t ++ d) (k ∙ ap (λ t. t ++ c) (h ∙ ap (λ t. t ++ b) g))))) ∙ six-in-row text a b c d e f

-- ---- a piece that is not always written
pub left_out : (text part : List ℕ) (is_out : Bool) → is_out ≡ true → text ≡ text ++ cond is_out [] part
left_out text part is_out e = sym (append-nil text) ∙ ap (λ (b : Bool). text ++ cond b [] part) (sym e)

pub written : (text new part : List ℕ) (is_out : Bool) → is_out ≡ false → new ≡ text ++ part → new ≡ text ++ cond is_out [] part
written text new part is_out e h = h ∙ ap (λ (b : Bool). text ++ cond b [] part) (sym e)

-- ---- a piece for each item of a list, and one more
pub one_piece_more : {X : Type 0} (f : X → List ℕ) (text mid new : List ℕ) (xs : List X) (i : ℕ) (x : X) → i < length xs → x ≡ get_or xs i x → mid ≡ text ++ flat_map f (take i xs) → new ≡ mid ++ f x → new ≡ text ++ flat_map f (take (i + 1) xs)
one_piece_more {X} f text mid new xs i x less is so_far more =
    (more ∙ ap (λ (t : List ℕ). t ++ f x) so_far) ∙ (flat_map_more f text (take i xs) x ∙
    ap (λ (ys : List X). text ++ flat_map f ys) (ap (λ (y : X). take i xs ++ y ∷ []) is ∙ sym (take_more xs i x less)))
