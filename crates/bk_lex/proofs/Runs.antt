-- Runs of bytes that pass a test, and where a text may be cut.
use Rattle.std.proofs.Common.{◌≡◌, ℕ, zero, suc, ◌+◌, ◌-◌, ◌*◌, ◌<◌, ◌≤◌, Bool, true, false, cond, not, List, [], ◌∷◌, ◌++◌, length, get_or, take, drop, Option, Some, None, SomeIff, IsUtf8, refl, ap, sym, ◌∙◌, arith, subst, one-add, add-one, drop-cons, length-append, drop_of_length-le}
use Rattle.std.specs.Prelude.{nat_eq}
use Rattle.std.specs.List.{list_all, prefix_len, slice_get}
use Rattle.std.specs.Str.{IsCharBoundary}
use Rattle.std.proofs.lemmas.Bool.{and_parts, and_from, leb-true, not-false, eqb-true}
use Rattle.std.proofs.lemmas.Bool.Decides.{nat_tests}
use Rattle.std.proofs.lemmas.List.Folds.{length-prefix_len}
use Rattle.std.proofs.lemmas.Str.{IsCharBoundary-from_take, IsUtf8-from_ascii}
use Rattle.bk_lex.specs.Lexis.{is_digit, is_numeral, is_blank, stays_in_line, numeral_from}
use Rattle.bk_lex.specs.Parts.{begins, IsRun, IsFirstNumeral}
use Rattle.bk_lex.proofs.Numbered.{is_ascii}

run_by : (p : ℕ → Bool) (x : ℕ) (xs : List ℕ) (b : Bool) → p x ≡ b → IsRun p xs (take (prefix_len p xs) xs) (drop (prefix_len p xs) xs)
    → IsRun p (x ∷ xs) (take (cond b (1 + prefix_len p xs) 0) (x ∷ xs)) (drop (cond b (1 + prefix_len p xs) 0) (x ∷ xs))
run_by p x xs true e r =
    subst (λ n. IsRun p (x ∷ xs) (take n (x ∷ xs)) (drop n (x ∷ xs))) (sym (one-add (prefix_len p xs))) (record {
      splits = ap (λ ys. x ∷ ys) r.splits;
      all = and_from (p x) (list_all p (take (prefix_len p xs) xs)) e r.all;
      ends = r.ends;
    })
run_by p x xs false e r = record { splits = refl; all = refl; ends = e }

run_of : (p : ℕ → Bool) (xs : List ℕ) → IsRun p xs (take (prefix_len p xs) xs) (drop (prefix_len p xs) xs)
run_of p [] = record { splits = refl; all = refl; ends = refl }
run_of p (x ∷ xs) = run_by p x xs (p x) refl (run_of p xs)

pub run_at : (p : ℕ → Bool) (xs : List ℕ) (n : ℕ) → n ≡ length (take (prefix_len p xs) xs) → IsRun p xs (take n xs) (drop n xs)
run_at p xs n e = subst (λ m. IsRun p xs (take m xs) (drop m xs)) (sym (e ∙ length-prefix_len p xs)) (run_of p xs)

-- no run that passes is longer
pub run_longest : (p : ℕ → Bool) (run rest more after : List ℕ) → begins p rest ≡ false → list_all p more ≡ true → run ++ rest ≡ more ++ after → length more ≤ length run
run_longest p run rest [] after s a e = omega arith
run_longest p [] rest (c ∷ more) after s a e =
    let yes : p c ≡ true = (and_parts (p c) (list_all p more) a).0 in
    let no : p c ≡ false = sym (ap (λ v. begins p v) e) ∙ s in absurd (cc)
run_longest p (d ∷ run) rest (c ∷ more) after s a e =
    let tails : run ++ rest ≡ more ++ after = cc in
    let le : length more ≤ length run = run_longest p run rest more after s (and_parts (p c) (list_all p more) a).1 tails in
    omega arith

-- ---- cuts
ascii_at : (bs : List ℕ) → list_all is_ascii bs ≡ true → (i : ℕ) → get_or bs i 0 < 128
ascii_at [] a i = omega arith
ascii_at (c ∷ bs) a zero =
    let small : c ≤ 127 = leb-true c 127 (and_parts (is_ascii c) (list_all is_ascii bs) a).0 in omega arith
ascii_at (c ∷ bs) a (suc i) = ascii_at bs (and_parts (is_ascii c) (list_all is_ascii bs) a).1 i

pub ascii_boundary : (text : List ℕ) (n : ℕ) → IsUtf8 text → n ≤ length text → list_all is_ascii (take n text) ≡ true → IsCharBoundary text n
ascii_boundary text n u l a = IsCharBoundary-from_take text n u l (IsUtf8-from_ascii (take n text) (λ i. ascii_at (take n text) a i))

all_imply : (p q : ℕ → Bool) → ((c : ℕ) → p c ≡ true → q c ≡ true) → (xs : List ℕ) → list_all p xs ≡ true → list_all q xs ≡ true
all_imply p q i [] h = refl
all_imply p q i (c ∷ xs) h =
    let parts : (p c ≡ true) × (list_all p xs ≡ true) = and_parts (p c) (list_all p xs) h in
    and_from (q c) (list_all q xs) (i c parts.0) (all_imply p q i xs parts.1)

digit_ascii : (c : ℕ) → is_digit c ≡ true → is_ascii c ≡ true
digit_ascii c h = grind (arith, nat_tests)

blank_ascii : (c : ℕ) → is_blank c ≡ true → is_ascii c ≡ true
blank_ascii c h = grind (arith, nat_tests)

run_within : (p : ℕ → Bool) (xs : List ℕ) → length (take (prefix_len p xs) xs) ≤ length xs
run_within p xs =
    let r : IsRun p xs (take (prefix_len p xs) xs) (drop (prefix_len p xs) xs) = run_of p xs in
    let whole : length xs ≡ length (take (prefix_len p xs) xs) + length (drop (prefix_len p xs) xs) = ap length r.splits ∙ length-append (take (prefix_len p xs) xs) (drop (prefix_len p xs) xs) in
    omega arith

pub digits_boundary : (text : List ℕ) (n : ℕ) → IsUtf8 text → n ≡ length (take (prefix_len is_digit text) text) → IsCharBoundary text n
digits_boundary text n u e =
    ascii_boundary text n u (omega (arith, run_within is_digit text)) (all_imply is_digit is_ascii digit_ascii (take n text) (run_at is_digit text n e).all)

pub blanks_boundary : (text : List ℕ) (n : ℕ) → IsUtf8 text → n ≡ length (take (prefix_len is_blank text) text) → IsCharBoundary text n
blanks_boundary text n u e =
    ascii_boundary text n u (omega (arith, run_within is_blank text)) (all_imply is_blank is_ascii blank_ascii (take n text) (run_at is_blank text n e).all)

line_feed : (text : List ℕ) (n : ℕ) → n < length text → begins stays_in_line (drop n text) ≡ false → get_or text n 0 ≡ 10
line_feed text n l h =
    let here : not (nat_eq (get_or text n 0) 10) ≡ false = sym (ap (λ v. begins stays_in_line v) (drop-cons text n 0 l)) ∙ h in
    eqb-true (get_or text n 0) 10 (not-false (nat_eq (get_or text n 0) 10) here)

pub line_boundary : (text : List ℕ) (n : ℕ) → n ≡ length (take (prefix_len stays_in_line text) text) → IsCharBoundary text n
line_boundary text n e = (
  omega (arith, run_within stays_in_line text),
  λ l big. absurd (omega (arith, line_feed text n l (run_at stays_in_line text n e).ends)),
)

-- ---- digits
pub numeral_all : (w : List ℕ) → is_numeral w ≡ true → list_all is_digit w ≡ true
numeral_all [] h = refl
numeral_all (c ∷ cs) h = h

is_number : (text run rest : List ℕ) → begins is_digit text ≡ true → text ≡ run ++ rest → list_all is_digit run ≡ true → begins is_digit rest ≡ false → is_numeral run ≡ true
is_number text [] rest b e a s =
    let n : begins is_digit text ≡ begins is_digit rest = ap (λ v. begins is_digit v) e in absurd (cc)
is_number text (c ∷ run) rest b e a s = a

pub first_numeral : (text run rest : List ℕ) → begins is_digit text ≡ true → IsRun is_digit text run rest → IsFirstNumeral text run rest
first_numeral text run rest b r = record {
  splits = r.splits;
  numeral = is_number text run rest b r.splits r.all r.ends;
  ends = r.ends;
}

pub begins_at : (p : ℕ → Bool) (text : List ℕ) (c : ℕ) → Some c ≡ slice_get text 0 → begins p text ≡ p c
begins_at p [] c e = absurd (cc)
begins_at p (x ∷ xs) c e = let same : c ≡ x = cc in ap p (sym same)

-- ---- numbers
numeral_from-le : (n : ℕ) (cs : List ℕ) → n ≤ numeral_from n cs
numeral_from-le n [] = omega arith
numeral_from-le n (c ∷ cs) =
    let more : 10 * n + (c - 48) ≤ numeral_from (10 * n + (c - 48)) cs = numeral_from-le (10 * n + (c - 48)) cs in omega arith

numeral_from-drop : (n : ℕ) (cs : List ℕ) (i : ℕ) → i < length cs → numeral_from n (drop i cs) ≡ numeral_from (10 * n + (get_or cs i 0 - 48)) (drop (i + 1) cs)
numeral_from-drop n cs i h =
    ap (λ ds. numeral_from n ds) (drop-cons cs i 0 h)
    ∙ ap (λ k. numeral_from (10 * n + (get_or cs i 0 - 48)) (drop k cs)) (sym (add-one i))

pub too_large : (bound : ℕ) (cs : List ℕ) (n i : ℕ) → i < length cs → numeral_from n (drop i cs) ≡ numeral_from 0 cs → bound ≤ 10 * n + (get_or cs i 0 - 48) → numeral_from 0 cs < bound → ⊥
too_large bound cs n i h e big small =
    let next : ℕ = 10 * n + (get_or cs i 0 - 48) in
    let grows : next ≤ numeral_from next (drop (i + 1) cs) = numeral_from-le next (drop (i + 1) cs) in
    let same : numeral_from n (drop i cs) ≡ numeral_from next (drop (i + 1) cs) = numeral_from-drop n cs i h in
    omega arith

pub none_iff : {T : Type 0} (r : Option T) (P : Type 0) (v : T) → r ≡ None → (P → ⊥) → SomeIff r P v
none_iff None P v e h = h
none_iff (Some x) P v e h = absurd (cc)

pub ended : (n : ℕ) (cs : List ℕ) (i : ℕ) → length cs ≤ i → numeral_from n (drop i cs) ≡ numeral_from 0 cs → n ≡ numeral_from 0 cs
ended n cs i l h = sym (ap (λ ds. numeral_from n ds) (drop_of_length-le cs l)) ∙ h
