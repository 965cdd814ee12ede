-- Formulas with variables in place of variables are as large as they were.
use Rattle.std.proofs.Common.{◌≡◌, ℕ, ◌+◌, ◌<◌, ◌^◌, ap, refl, arith}
use Rattle.bk_form.specs.Formula.{Formula, variable, unary, binary, for_all, for_some, comprehension, lambda, Formulas, no_formulas, formula_and, formula_size, formulas_size}
use Rattle.bk_form.specs.Replacement.{all_replaced, renamed}
use Rattle.bk_form.proofs.Sizes.{size_pos, size_at}
use Rattle.bk_bind.proofs.Replaced.{replaced_size_at, all_replaced-of}

module _ (by : ℕ → ℕ) where
  mutual
    pub size_renamed : (f : Formula) → formula_size (renamed by f) ≡ formula_size f
    size_renamed (variable n) = refl
    size_renamed (unary o a) = ap (λ x. x + 1) (size_renamed a)
    size_renamed (binary o a b) = λ i. size_renamed a i + size_renamed b i + 1
    size_renamed (for_all ts p) = ap (λ x. x + 1) (size_renamed p)
    size_renamed (for_some ts p) = ap (λ x. x + 1) (size_renamed p)
    size_renamed (comprehension rs p) = λ i. sizes_renamed rs i + size_renamed p i + 1
    size_renamed (lambda rs p v) = λ i. sizes_renamed rs i + size_renamed p i + size_renamed v i + 1
    size_renamed _ = refl

    sizes_renamed : (fs : Formulas) → formulas_size (all_replaced (λ n. variable (by n)) fs) ≡ formulas_size fs
    sizes_renamed no_formulas = refl
    sizes_renamed (formula_and f fs) = λ i. size_renamed f i + sizes_renamed fs i

pub small_renamed : (by : ℕ → ℕ) (f : Formula) → formula_size f < 2 ^ 32 → formula_size (renamed by f) < 2 ^ 32
small_renamed by f h = omega (arith, h, size_renamed by f)

pub ruleset renaming = (size_pos, size_at, replaced_size_at, all_replaced-of)

pub ruleset renamed_sizes = (small_renamed, size_pos)
