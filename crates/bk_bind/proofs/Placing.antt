-- Terms in place of bound numbers: which term stands at which number, and lists of opened formulas.
use Rattle.std.proofs.Common.{◌≡◌, ℕ, zero, suc, ◌+◌, ◌-◌, ◌≤◌, ◌<◌, List, [], ◌∷◌, length, get_or, map, Bool, true, false, cond, nat_lt, refl, ap, subst, ◌∙◌, arith}
use Rattle.std.specs.Prelude.{None, slice_get, unwrap_or}
use Rattle.std.proofs.lemmas.Bool.Decides.{nat_tests}
use Rattle.std.proofs.lemmas.Option.{slice_get_past}
use Rattle.bk_form.specs.Formula.{Formula, bound, formula_and, formula_size, formulas_size, formulas_of}
use Rattle.bk_form.specs.Role.{bind}
use Rattle.bk_form.proofs.Sizes.{size_pos, size_at}
use Rattle.bk_form.specs.Rebound.{rebound, all_rebound}
use Rattle.bk_bind.specs.Opening.{placed}

-- ---- the terms from the last to the first
-- behind the terms stands what was there before
behind : {A : Type 0} (xs around : List A) (i : ℕ) → slice_get (bind xs around) (i + length xs) ≡ slice_get around i
behind [] around i = let e : i ≡ i + zero = omega arith in subst (λ j. slice_get around j ≡ slice_get around i) e refl
behind (x ∷ xs) around i = let e : suc i + length xs ≡ i + suc (length xs) = omega arith in subst (λ j. slice_get (bind xs (x ∷ around)) j ≡ slice_get around i) e (behind xs (x ∷ around) (suc i))

-- the last comes first
onto : {A : Type 0} (xs around : List A) (i : ℕ) → i < length xs → slice_get (bind xs around) i ≡ slice_get xs (length xs - 1 - i)
onto [] around i h = absurd (omega (arith, h))
onto {A} (x ∷ xs) around i h = by_place (λ j l. onto xs (x ∷ around) j l) (nat_lt i (length xs)) refl
  where
    inside : nat_lt i (length xs) ≡ true → i < length xs
    inside q = grind (arith, nat_tests)

    last : nat_lt i (length xs) ≡ false → i ≡ length xs
    last q = grind (arith, nat_tests, h)

    by_place : ((j : ℕ) → j < length xs → slice_get (bind xs (x ∷ around)) j ≡ slice_get xs (length xs - 1 - j)) → (b : Bool) → nat_lt i (length xs) ≡ b → slice_get (bind xs (x ∷ around)) i ≡ slice_get (x ∷ xs) (suc (length xs) - 1 - i)
    by_place on true q =
        let l = inside q in
        let e : suc (length xs - 1 - i) ≡ suc (length xs) - 1 - i = omega (arith, l) in
        on i l ∙ ap (slice_get (x ∷ xs)) e
    by_place on false q =
        let l = last q in
        let e : zero ≡ suc (length xs) - 1 - i = omega (arith, l) in
        let f : i ≡ zero + length xs = omega (arith, l) in
        ap (slice_get (bind xs (x ∷ around))) f ∙ behind xs (x ∷ around) zero ∙ ap (slice_get (x ∷ xs)) e

pub turned : (terms : List Formula) (i : ℕ) → i < length terms → slice_get (bind terms []) i ≡ slice_get terms (length terms - 1 - i)
turned terms i h = onto terms [] i h

pub past_all : (terms : List Formula) (i : ℕ) → length terms ≤ i → slice_get (bind terms []) i ≡ None
past_all terms i h =
    let e : i ≡ (i - length terms) + length terms = omega (arith, h) in
    ap (slice_get (bind terms [])) e ∙ behind terms [] (i - length terms) ∙ slice_get_past [] (i - length terms) (omega arith)

pub ruleset turning = (turned, past_all)

-- ---- one bound number
pub placed_own : (stack : List Formula) (k m : ℕ) → m < k → placed stack k m ≡ bound m
placed_own stack k m h = let e : nat_lt m k ≡ true = grind (arith, nat_tests) in ap (λ b. cond b (bound m) (unwrap_or (slice_get stack (m - k)) (bound m))) e

pub placed_loose : (stack : List Formula) (k m : ℕ) → k ≤ m → placed stack k m ≡ unwrap_or (slice_get stack (m - k)) (bound m)
placed_loose stack k m h = let e : nat_lt m k ≡ false = grind (arith, nat_tests) in ap (λ b. cond b (bound m) (unwrap_or (slice_get stack (m - k)) (bound m))) e

pub ruleset placing = (placed_own, placed_loose)

-- ---- lists of formulas
pub all_rebound-of : (put : ℕ → ℕ → Formula) (k : ℕ) (fs : List Formula) → all_rebound put k (formulas_of fs) ≡ formulas_of (map (rebound put k) fs)
all_rebound-of put k [] = refl
all_rebound-of put k (f ∷ fs) = λ i. formula_and (rebound put k f) (all_rebound-of put k fs i)

-- a formula of the list has no more nodes then than the list
pub rebound_size_at : (put : ℕ → ℕ → Formula) (k : ℕ) (fs : List Formula) (i : ℕ) (d : Formula) → i < length fs → formula_size (rebound put k (get_or fs i d)) ≤ formulas_size (all_rebound put k (formulas_of fs))
rebound_size_at put k [] i d h = absurd (omega arith)
rebound_size_at put k (f ∷ fs) zero d h = omega arith
rebound_size_at put k (f ∷ fs) (suc i) d h = let rest : formula_size (rebound put k (get_or fs i d)) ≤ formulas_size (all_rebound put k (formulas_of fs)) = rebound_size_at put k fs i d (omega arith) in omega arith

pub ruleset building = (size_pos, size_at, rebound_size_at, all_rebound-of)
