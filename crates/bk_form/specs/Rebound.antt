-- Other formulas in place of bound numbers.
use Rattle.std.specs.Prelude.{ℕ, ◌+◌, length}
use Rattle.bk_form.specs.Formula.{Formula, variable, bound, literal, truth_value, element, empty_set, named, btrue, bfalse}
use Rattle.bk_form.specs.Formula.{unary, binary, for_all, for_some, comprehension, lambda, Formulas, no_formulas, formula_and}
use Rattle.bk_form.specs.Replacement.{count}

-- what `put` says in place of each bound number
abbrev mutual
  -- `put k m` in place of the bound number m where it stands under k binders
  pub rebound : (ℕ → ℕ → Formula) → ℕ → Formula → Formula
  rebound put k (variable n) = variable n
  rebound put k (bound m) = put k m
  rebound put k (literal z) = literal z
  rebound put k (truth_value b) = truth_value b
  rebound put k (element s i) = element s i
  rebound put k (empty_set t) = empty_set t
  rebound put k (named d) = named d
  rebound put k btrue = btrue
  rebound put k bfalse = bfalse
  rebound put k (unary o a) = unary o (rebound put k a)
  rebound put k (binary o a b) = binary o (rebound put k a) (rebound put k b)
  rebound put k (for_all ts p) = for_all ts (rebound put (length ts + k) p)
  rebound put k (for_some ts p) = for_some ts (rebound put (length ts + k) p)
  rebound put k (comprehension rs p) = comprehension (all_rebound put k rs) (rebound put (count rs + k) p)
  rebound put k (lambda rs p v) = lambda (all_rebound put k rs) (rebound put (count rs + k) p) (rebound put (count rs + k) v)

  -- the same in each of these formulas
  pub all_rebound : (ℕ → ℕ → Formula) → ℕ → Formulas → Formulas
  all_rebound put k no_formulas = no_formulas
  all_rebound put k (formula_and f fs) = formula_and (rebound put k f) (all_rebound put k fs)
