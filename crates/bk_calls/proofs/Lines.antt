-- The lines of a text, the first one and the others.
use Rattle.std.proofs.Common.{◌≡◌, ℕ, ◌+◌, ◌<◌, ◌≤◌, refl, sym, ◌∙◌, ap, arith, Bool, true, false, cond, suc, eqb, List, [], ◌∷◌, length, take, drop, zero, ◌-◌, Option, Some, None}
use Rattle.std.specs.Prelude.{position, ◌==◌}
use Rattle.std.specs.List.{slice_split, onto_first, before_first, after_first}
use Rattle.std.specs.Str.Lines.{lines, lines_of_parts, strip_carriage_return}
use Rattle.std.proofs.lemmas.Bool.{cond-false, ne_eqb}
use Rattle.std.proofs.lemmas.List.{drop_all, length-drop}
use Rattle.std.proofs.lemmas.List.Splits.{slice_split_first, slice_split_none}
use Rattle.bk_calls.proofs.Places.{place_found, all_fail}

abbrev is_newline : ℕ → Bool
is_newline b = b == 10

-- a list of parts has a first one
onto_some : (x : ℕ) (parts : List (List ℕ)) → (y : List ℕ) × (ys : List (List ℕ)) × (onto_first x parts ≡ y ∷ ys)
onto_some x [] = (x ∷ [], [], refl)
onto_some x (part ∷ parts) = (x ∷ part, parts, refl)

cond_some : (b : Bool) (p q : List (List ℕ)) → ((y : List ℕ) × (ys : List (List ℕ)) × (p ≡ y ∷ ys)) → ((y : List ℕ) × (ys : List (List ℕ)) × (q ≡ y ∷ ys)) →
    (y : List ℕ) × (ys : List (List ℕ)) × (cond b p q ≡ y ∷ ys)
cond_some true p q h k = h
cond_some false p q h k = k

split_some : (text : List ℕ) → (y : List ℕ) × (ys : List (List ℕ)) × (slice_split is_newline text ≡ y ∷ ys)
split_some [] = ([], [], refl)
split_some (x ∷ xs) =
    cond_some (is_newline x) ([] ∷ slice_split is_newline xs) (onto_first x (slice_split is_newline xs)) ([], slice_split is_newline xs, refl) (onto_some x (slice_split is_newline xs))

more_lines : (x y : List ℕ) (parts ys : List (List ℕ)) → parts ≡ y ∷ ys → lines_of_parts (x ∷ parts) ≡ strip_carriage_return x ∷ lines_of_parts parts
more_lines x y parts ys e = rw e refl

-- a line that ends at a line feed
pub line_ends : (text : List ℕ) (end : ℕ) → position (λ b. b == 10) text ≡ Some end → lines text ≡ strip_carriage_return (take end text) ∷ lines (drop (end + 1) text)
line_ends text end e =
    let at = place_found is_newline text end e in
    let split : slice_split is_newline text ≡ before_first is_newline text ∷ slice_split is_newline (after_first is_newline text) = slice_split_first is_newline text 0 at.1 in
    let some = split_some (after_first is_newline text) in
    let whole : lines text ≡ strip_carriage_return (before_first is_newline text) ∷ lines (after_first is_newline text) =
    ap lines_of_parts split ∙ more_lines (before_first is_newline text) some.0 (slice_split is_newline (after_first is_newline text)) some.1 some.2 in
    whole ∙ ap (λ n. strip_carriage_return (take n text) ∷ lines (drop (n + 1) text)) at.0

one_line : (text : List ℕ) → 0 < length text → lines_of_parts (text ∷ []) ≡ text ∷ []
one_line [] some = absurd (omega arith)
one_line (x ∷ xs) some = cond-false (eqb (suc (length xs)) 0) [] ((x ∷ xs) ∷ []) (ne_eqb (suc (length xs)) 0 (λ e. omega arith))

-- a line without a line feed
pub line_rests : (text : List ℕ) → position (λ b. b == 10) text ≡ None → 0 < length text → lines text ≡ text ∷ lines (drop (length text) text)
line_rests text e some =
    ap lines_of_parts (slice_split_none is_newline text (all_fail is_newline text e)) ∙ one_line text some ∙
    ap (λ rest. text ∷ lines rest) (sym (drop_all (length text) text (omega arith)))

one_fewer : (n : ℕ) (text : List ℕ) → ((rest : List ℕ) → length rest ≤ n → length (lines rest) ≤ length rest) → length text ≤ suc n → 0 < length text →
    (found : Option ℕ) → position is_newline text ≡ found → length (lines text) ≤ length text
one_fewer n text shorter le some None is =
    let rest = drop (length text) text in
    let less : length rest ≡ 0 = length-drop (length text) text ∙ (let e : length text - length text ≡ 0 = omega arith in e) in
    let whole : length (lines text) ≡ suc (length (lines rest)) = ap length (line_rests text is some) in
    omega (arith, shorter rest (omega arith))
one_fewer n text shorter le some (Some end) is =
    let rest = drop (end + 1) text in
    let less : length rest ≡ length text - (end + 1) = length-drop (end + 1) text in
    let whole : length (lines text) ≡ suc (length (lines rest)) = ap length (line_ends text end is) in
    omega (arith, shorter rest (omega arith))

fewer : (n : ℕ) (text : List ℕ) → length text ≤ n → length (lines text) ≤ length text
fewer n [] le = omega arith
fewer zero (x ∷ xs) le = absurd (omega arith)
fewer (suc n) (x ∷ xs) le = one_fewer n (x ∷ xs) (λ (rest : List ℕ) le. fewer n rest le) le (omega arith) (position is_newline (x ∷ xs)) refl

-- a text has no more lines than bytes
pub lines_within : (text : List ℕ) → length (lines text) ≤ length text
lines_within text = fewer (length text) text (omega arith)
