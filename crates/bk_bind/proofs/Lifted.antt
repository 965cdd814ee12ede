-- Formulas under more binders are as large as they were.
use Rattle.std.proofs.Common.{◌≡◌, ℕ, zero, suc, ◌+◌, ◌≤◌, ◌<◌, ◌^◌, List, [], ◌∷◌, length, get_or, map, max, true, false, cond, nat_lt, refl, ap, arith}
use Rattle.std.proofs.lemmas.Bool.Decides.{nat_tests}
use Rattle.bk_limits.specs.declared.TheConstants.{GREATEST_HEIGHT, MOST_NODES}
use Rattle.bk_form.specs.Formula.{Formula, bound, unary, binary, for_all, for_some, comprehension, lambda, Formulas, no_formulas, formula_and, formula_size, formula_height, formulas_size, formulas_height, formulas_of}
use Rattle.bk_form.specs.Replacement.{count}
use Rattle.bk_form.proofs.Sizes.{size_pos, size_at}
use Rattle.bk_form.specs.Lifting.{shifted, lifted, all_lifted}
use Rattle.bk_bind.specs.Limits.{IsWithinLimits}

-- ---- one bound number
pub kept_number : (n k m : ℕ) → m < k → shifted n k m ≡ bound m
kept_number n k m h = let e : nat_lt m k ≡ true = grind (arith, nat_tests) in ap (λ b. bound (cond b m (m + n))) e

pub raised_number : (n k m : ℕ) → k ≤ m → shifted n k m ≡ bound (m + n)
raised_number n k m h = let e : nat_lt m k ≡ false = grind (arith, nat_tests) in ap (λ b. bound (cond b m (m + n))) e

pub ruleset shifting = (kept_number, raised_number)

-- ---- lists of formulas
pub count_listed : (fs : List Formula) → count (formulas_of fs) ≡ length fs
count_listed [] = refl
count_listed (f ∷ fs) = ap suc (count_listed fs)

pub all_lifted-of : (n k : ℕ) (fs : List Formula) → all_lifted n k (formulas_of fs) ≡ formulas_of (map (lifted n k) fs)
all_lifted-of n k [] = refl
all_lifted-of n k (f ∷ fs) = λ i. formula_and (lifted n k f) (all_lifted-of n k fs i)

-- a formula of the list has no more nodes then than the list
pub lifted_size_at : (n k : ℕ) (fs : List Formula) (i : ℕ) (d : Formula) → i < length fs → formula_size (lifted n k (get_or fs i d)) ≤ formulas_size (all_lifted n k (formulas_of fs))
lifted_size_at n k [] i d h = absurd (omega arith)
lifted_size_at n k (f ∷ fs) zero d h = omega arith
lifted_size_at n k (f ∷ fs) (suc i) d h = let rest : formula_size (lifted n k (get_or fs i d)) ≤ formulas_size (all_lifted n k (formulas_of fs)) = lifted_size_at n k fs i d (omega arith) in omega arith

pub ruleset lifting = (size_pos, size_at, lifted_size_at, all_lifted-of)

-- ---- sizes
mutual
  pub size_lifted : (n k : ℕ) (f : Formula) → formula_size (lifted n k f) ≡ formula_size f
  size_lifted n k (unary o a) = ap (λ x. x + 1) (size_lifted n k a)
  size_lifted n k (binary o a b) = λ i. size_lifted n k a i + size_lifted n k b i + 1
  size_lifted n k (for_all ts p) = ap (λ x. x + 1) (size_lifted n (length ts + k) p)
  size_lifted n k (for_some ts p) = ap (λ x. x + 1) (size_lifted n (length ts + k) p)
  size_lifted n k (comprehension rs p) = λ i. sizes_lifted n k rs i + size_lifted n (count rs + k) p i + 1
  size_lifted n k (lambda rs p v) = λ i. sizes_lifted n k rs i + size_lifted n (count rs + k) p i + size_lifted n (count rs + k) v i + 1
  size_lifted n k _ = refl

  sizes_lifted : (n k : ℕ) (fs : Formulas) → formulas_size (all_lifted n k fs) ≡ formulas_size fs
  sizes_lifted n k no_formulas = refl
  sizes_lifted n k (formula_and f fs) = λ i. size_lifted n k f i + sizes_lifted n k fs i

mutual
  pub height_lifted : (n k : ℕ) (f : Formula) → formula_height (lifted n k f) ≡ formula_height f
  height_lifted n k (unary o a) = ap (λ x. x + 1) (height_lifted n k a)
  height_lifted n k (binary o a b) = λ i. max (height_lifted n k a i) (height_lifted n k b i) + 1
  height_lifted n k (for_all ts p) = ap (λ x. x + 1) (height_lifted n (length ts + k) p)
  height_lifted n k (for_some ts p) = ap (λ x. x + 1) (height_lifted n (length ts + k) p)
  height_lifted n k (comprehension rs p) = λ i. max (heights_lifted n k rs i) (height_lifted n (count rs + k) p i) + 1
  height_lifted n k (lambda rs p v) = λ i. max (heights_lifted n k rs i) (max (height_lifted n (count rs + k) p i) (height_lifted n (count rs + k) v i)) + 1
  height_lifted n k _ = refl

  heights_lifted : (n k : ℕ) (fs : Formulas) → formulas_height (all_lifted n k fs) ≡ formulas_height fs
  heights_lifted n k no_formulas = refl
  heights_lifted n k (formula_and f fs) = λ i. max (height_lifted n k f i) (heights_lifted n k fs i)

pub small_lifted : (n k : ℕ) (f : Formula) → formula_size f ≤ MOST_NODES → formula_size (lifted n k f) < 2 ^ 32
small_lifted n k f h = omega (arith, h, size_lifted n k f)

pub few_lifted : (n k : ℕ) (f : Formula) → formula_size f < 2 ^ 32 → formula_size (lifted n k f) < 2 ^ 32
few_lifted n k f h = omega (arith, h, size_lifted n k f)

pub ruleset raised = (few_lifted)

pub within_lifted : (n k : ℕ) (f : Formula) → formula_size f ≤ MOST_NODES → formula_height f ≤ GREATEST_HEIGHT → IsWithinLimits (lifted n k f)
within_lifted n k f h g = record { nodes = omega (arith, h, size_lifted n k f); height = omega (arith, g, height_lifted n k f) }

pub limits_of_lifted : (n k : ℕ) (f : Formula) → IsWithinLimits (lifted n k f) → IsWithinLimits f
limits_of_lifted n k f w = record { nodes = omega (arith, w.nodes, size_lifted n k f); height = omega (arith, w.height, height_lifted n k f) }

pub ruleset lifted_limits = (small_lifted, within_lifted, limits_of_lifted)
