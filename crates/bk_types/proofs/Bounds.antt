-- Bound numbers count from the last type of a list.
use Rattle.std.proofs.Common.{◌≡◌, ℕ, suc, ◌+◌, ◌-◌, ◌<◌, ◌≤◌, List, [], ◌∷◌, ◌++◌, length, refl, ◌∙◌, ap, Bool, true, false, arith, nat_lt}
use Rattle.std.specs.Prelude.{None, slice_get}
use Rattle.std.proofs.lemmas.Bool.Decides.{nat_tests}
use Rattle.bk_form.specs.Role.{bind}

-- further ones stand in front of those around them
pub bind-append : {A : Type 0} (xs ys around : List A) → bind (xs ++ ys) around ≡ bind ys (bind xs around)
bind-append [] ys around = refl
bind-append (x ∷ xs) ys around = bind-append xs ys (x ∷ around)

-- behind a list stands what is around it
bind-past : {A : Type 0} (xs around : List A) (k : ℕ) → slice_get (bind xs around) (length xs + k) ≡ slice_get around k
bind-past [] around k =
    let same : 0 + k ≡ k = omega arith in
    ap (slice_get around) same
bind-past (x ∷ xs) around k =
    let same : length (x ∷ xs) + k ≡ length xs + suc k = omega arith in
    ap (slice_get (bind xs (x ∷ around))) same ∙ bind-past xs (x ∷ around) (suc k)

-- a number past the list names none
pub bind-outside : {A : Type 0} (xs : List A) (n : ℕ) → length xs ≤ n → slice_get (bind xs []) n ≡ None
bind-outside xs n h =
    let same : n ≡ length xs + (n - length xs) = omega (arith, h) in
    ap (slice_get (bind xs [])) same ∙ bind-past xs [] (n - length xs)

-- a number within the list names the element that so many others follow
pub bind-inside : {A : Type 0} (xs around : List A) (n : ℕ) → n < length xs → slice_get (bind xs around) n ≡ slice_get xs (length xs - suc n)
bind-inside [] around n h = absurd (omega (arith, h))
bind-inside (x ∷ xs) around n h = by-test (nat_lt n (length xs)) refl (λ w. bind-inside xs (x ∷ around) n w)
  where
    less : nat_lt n (length xs) ≡ true → n < length xs
    less e = grind (arith, nat_tests)

    last : nat_lt n (length xs) ≡ false → n ≡ length xs + 0
    last e = grind (arith, nat_tests)

    by-test : (b : Bool) → nat_lt n (length xs) ≡ b → (n < length xs → slice_get (bind xs (x ∷ around)) n ≡ slice_get xs (length xs - suc n)) → slice_get (bind xs (x ∷ around)) n ≡ slice_get (x ∷ xs) (length (x ∷ xs) - suc n)
    by-test true e below =
        let within = less e in
        let same : suc (length xs - suc n) ≡ length (x ∷ xs) - suc n = omega (arith, within) in
        below within ∙ ap (slice_get (x ∷ xs)) same
    by-test false e below =
        let here = last e in
        let first : 0 ≡ length (x ∷ xs) - suc n = omega (arith, here) in
        ap (slice_get (bind xs (x ∷ around))) here ∙ bind-past xs (x ∷ around) 0 ∙ ap (slice_get (x ∷ xs)) first

-- the same element, counted from the front
pub bind-within : {A : Type 0} (xs : List A) (n : ℕ) → n + 1 ≤ length xs → slice_get (bind xs []) n ≡ slice_get xs (length xs - (n + 1))
bind-within xs n h =
    let within : n < length xs = omega (arith, h) in
    let same : length xs - suc n ≡ length xs - (n + 1) = omega arith in
    bind-inside xs [] n within ∙ ap (slice_get xs) same

pub ruleset bounds = (bind-append, bind-within, bind-outside)
