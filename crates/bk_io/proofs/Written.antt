-- Pieces written one after another.
use Rattle.std.proofs.Common.{◌≡◌, ℕ, ◌+◌, ◌<◌, List, [], ◌∷◌, ◌++◌, take, drop, length, refl, sym, ◌∙◌, ap, subst, Option, Some, None}
use Rattle.std.proofs.Math.Seq.{take-add}
use Rattle.std.proofs.lemmas.List.{append_assoc, append-nil, drop-drop, drop_all}
use Rattle.bk_io.specs.Pieces.{Piece, IsTaken, AreTaken, written_with, taken_of, pieces_with, pieces_of, left_of}

-- a front of a text and then a front of the rest make a longer front
pub written_on : (told : Option (List ℕ)) (text : List ℕ) (m n : ℕ) → written_with (written_with told (take m text)) (take n (drop m text)) ≡ written_with told (take (m + n) text)
written_on None text m n = refl
written_on (Some old) text m n =
    ap (λ xs. Some xs) (append_assoc old (take m text) (take n (drop m text)) ∙ ap (λ xs. old ++ xs) (sym (take-add m n text)))

-- nothing written changes nothing
pub written_none : (told : Option (List ℕ)) → written_with told [] ≡ told
written_none None = refl
written_none (Some old) = ap (λ xs. Some xs) (append-nil old)

-- ---- pieces
-- one put more
pub pieces_more : (text counts : List ℕ) (n : ℕ) → pieces_of text (counts ++ n ∷ []) ≡ pieces_of text counts ++ taken_of (left_of text counts) n
pieces_more text [] n = append-nil (taken_of text n)
pieces_more text (m ∷ counts) n = ap (λ ps. taken_of text m ++ ps) (pieces_more (drop m text) counts n) ∙ sym (append_assoc (taken_of text m) (pieces_of (drop m text) counts) (taken_of (left_of (drop m text) counts) n))

pub left_more : (text counts : List ℕ) (n : ℕ) → left_of text (counts ++ n ∷ []) ≡ drop n (left_of text counts)
left_more text [] n = refl
left_more text (m ∷ counts) n = left_more (drop m text) counts n

pub taken_more : (text counts : List ℕ) (n : ℕ) → AreTaken text counts → IsTaken (left_of text counts) n → AreTaken text (counts ++ n ∷ [])
taken_more text [] n h t = (t, tt)
taken_more text (m ∷ counts) n h t = (h.0, taken_more (drop m text) counts n h.1 t)

-- pieces and then more pieces
pub pieces_on : (told : Option (List Piece)) (front back : List Piece) → pieces_with (pieces_with told front) back ≡ pieces_with told (front ++ back)
pieces_on None front back = refl
pieces_on (Some old) front back = ap (λ xs. Some xs) (append_assoc old front back)

pub pieces_none : (told : Option (List Piece)) → pieces_with told [] ≡ told
pieces_none None = refl
pieces_none (Some old) = ap (λ xs. Some xs) (append-nil old)

-- the first bytes of a text that are put, as they are left one after another
pub record PutUpTo (text : List ℕ) (done : ℕ) (old new : Option (List Piece)) : Type 0 where
  pub counts : List ℕ
  pub taken : AreTaken text counts
  pub left : left_of text counts ≡ drop done text
  pub pieces : new ≡ pieces_with old (pieces_of text counts)

pub put_nothing : (text : List ℕ) (told : Option (List Piece)) → PutUpTo text 0 told told
put_nothing text told = record { counts = []; taken = tt; left = refl; pieces = sym (pieces_none told) }

pub put_more : (text : List ℕ) (done n : ℕ) (old between new : Option (List Piece)) → PutUpTo text done old between → IsTaken (drop done text) n → new ≡ pieces_with between (taken_of (drop done text) n) → PutUpTo text (done + n) old new
put_more text done n old between new u t e =
    record {
      counts = u.counts ++ n ∷ [];
      taken = taken_more text u.counts n u.taken (subst (λ rest. IsTaken rest n) (sym u.left) t);
      left = left_more text u.counts n ∙ ap (drop n) u.left ∙ drop-drop n done text;
      pieces = e ∙ ap (λ told. pieces_with told (taken_of (drop done text) n)) u.pieces ∙ pieces_on old (pieces_of text u.counts) (taken_of (drop done text) n)
          ∙ ap (pieces_with old) (ap (λ rest. pieces_of text u.counts ++ taken_of rest n) (sym u.left) ∙ sym (pieces_more text u.counts n));
    }
