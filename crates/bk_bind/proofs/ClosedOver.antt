-- Formulas with variables bound are as large as they were.
use Rattle.std.proofs.Common.{◌≡◌, ℕ, zero, suc, ◌+◌, ◌≤◌, ◌<◌, ◌^◌, List, [], ◌∷◌, length, get_or, map, max, true, false, cond, nat_eq, refl, ap, ◌∙◌, arith}
use Rattle.bk_limits.specs.declared.TheConstants.{GREATEST_HEIGHT, MOST_NODES}
use Rattle.bk_form.specs.Formula.{Formula, variable, bound, unary, binary, for_all, for_some, comprehension, lambda, Formulas, no_formulas, formula_and, formula_size, formula_height, formulas_size, formulas_height, formulas_of}
use Rattle.bk_form.specs.Replacement.{count}
use Rattle.bk_form.proofs.Sizes.{size_pos, size_at}
use Rattle.bk_bind.specs.Closing.{closed_over, all_closed_over, closed_over_each}
use Rattle.bk_bind.specs.Limits.{IsWithinLimits}

-- ---- sizes
mutual
  pub size_closed : (z k : ℕ) (f : Formula) → formula_size (closed_over z k f) ≡ formula_size f
  size_closed z k (variable n) = elim (nat_eq n z) as (λ b. formula_size (cond b (bound k) (variable n)) ≡ 1) [ true ↦ refl | false ↦ refl ]
  size_closed z k (unary o a) = ap (λ x. x + 1) (size_closed z k a)
  size_closed z k (binary o a b) = λ i. size_closed z k a i + size_closed z k b i + 1
  size_closed z k (for_all ts p) = ap (λ x. x + 1) (size_closed z (length ts + k) p)
  size_closed z k (for_some ts p) = ap (λ x. x + 1) (size_closed z (length ts + k) p)
  size_closed z k (comprehension rs p) = λ i. sizes_closed z k rs i + size_closed z (count rs + k) p i + 1
  size_closed z k (lambda rs p v) = λ i. sizes_closed z k rs i + size_closed z (count rs + k) p i + size_closed z (count rs + k) v i + 1
  size_closed z k _ = refl

  sizes_closed : (z k : ℕ) (fs : Formulas) → formulas_size (all_closed_over z k fs) ≡ formulas_size fs
  sizes_closed z k no_formulas = refl
  sizes_closed z k (formula_and f fs) = λ i. size_closed z k f i + sizes_closed z k fs i

mutual
  pub height_closed : (z k : ℕ) (f : Formula) → formula_height (closed_over z k f) ≡ formula_height f
  height_closed z k (variable n) = elim (nat_eq n z) as (λ b. formula_height (cond b (bound k) (variable n)) ≡ 1) [ true ↦ refl | false ↦ refl ]
  height_closed z k (unary o a) = ap (λ x. x + 1) (height_closed z k a)
  height_closed z k (binary o a b) = λ i. max (height_closed z k a i) (height_closed z k b i) + 1
  height_closed z k (for_all ts p) = ap (λ x. x + 1) (height_closed z (length ts + k) p)
  height_closed z k (for_some ts p) = ap (λ x. x + 1) (height_closed z (length ts + k) p)
  height_closed z k (comprehension rs p) = λ i. max (heights_closed z k rs i) (height_closed z (count rs + k) p i) + 1
  height_closed z k (lambda rs p v) = λ i. max (heights_closed z k rs i) (max (height_closed z (count rs + k) p i) (height_closed z (count rs + k) v i)) + 1
  height_closed z k _ = refl

  heights_closed : (z k : ℕ) (fs : Formulas) → formulas_height (all_closed_over z k fs) ≡ formulas_height fs
  heights_closed z k no_formulas = refl
  heights_closed z k (formula_and f fs) = λ i. max (height_closed z k f i) (heights_closed z k fs i)

pub size_closed_each : (zs : List ℕ) (f : Formula) → formula_size (closed_over_each zs f) ≡ formula_size f
size_closed_each [] f = refl
size_closed_each (z ∷ zs) f = size_closed z (length zs) (closed_over_each zs f) ∙ size_closed_each zs f

pub height_closed_each : (zs : List ℕ) (f : Formula) → formula_height (closed_over_each zs f) ≡ formula_height f
height_closed_each [] f = refl
height_closed_each (z ∷ zs) f = height_closed z (length zs) (closed_over_each zs f) ∙ height_closed_each zs f

-- ---- limits
pub within_closed : (zs : List ℕ) (f : Formula) → formula_size f ≤ MOST_NODES → formula_height f ≤ GREATEST_HEIGHT → IsWithinLimits (closed_over_each zs f)
within_closed zs f h g = record { nodes = omega (arith, h, size_closed_each zs f); height = omega (arith, g, height_closed_each zs f) }

pub limits_of_closed : (zs : List ℕ) (f : Formula) → IsWithinLimits (closed_over_each zs f) → IsWithinLimits f
limits_of_closed zs f w = record { nodes = omega (arith, w.nodes, size_closed_each zs f); height = omega (arith, w.height, height_closed_each zs f) }

pub ruleset closed_limits = (within_closed, limits_of_closed)
