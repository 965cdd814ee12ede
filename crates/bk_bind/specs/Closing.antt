-- Variables made bound.
use Rattle.std.specs.Prelude.{ℕ, ◌+◌, nat_eq, cond, List, [], ◌∷◌, length}
use Rattle.bk_form.specs.Formula.{Formula, variable, bound, literal, truth_value, element, empty_set, named, btrue, bfalse}
use Rattle.bk_form.specs.Formula.{unary, binary, for_all, for_some, comprehension, lambda, Formulas, no_formulas, formula_and}
use Rattle.bk_form.specs.Replacement.{count}

-- the variable z becomes the bound number k, which counts the variables that are bound within, in a formula without loose bound numbers
abbrev mutual
  pub closed_over : ℕ → ℕ → Formula → Formula
  closed_over z k (variable n) = cond (nat_eq n z) (bound k) (variable n)
  closed_over z k (bound n) = bound n
  closed_over z k (literal i) = literal i
  closed_over z k (truth_value b) = truth_value b
  closed_over z k (element s i) = element s i
  closed_over z k (empty_set t) = empty_set t
  closed_over z k (named d) = named d
  closed_over z k btrue = btrue
  closed_over z k bfalse = bfalse
  closed_over z k (unary o a) = unary o (closed_over z k a)
  closed_over z k (binary o a b) = binary o (closed_over z k a) (closed_over z k b)
  closed_over z k (for_all ts p) = for_all ts (closed_over z (length ts + k) p)
  closed_over z k (for_some ts p) = for_some ts (closed_over z (length ts + k) p)
  closed_over z k (comprehension rs p) = comprehension (all_closed_over z k rs) (closed_over z (count rs + k) p)
  closed_over z k (lambda rs p v) = lambda (all_closed_over z k rs) (closed_over z (count rs + k) p) (closed_over z (count rs + k) v)

  -- the same in each of these formulas
  pub all_closed_over : ℕ → ℕ → Formulas → Formulas
  all_closed_over z k no_formulas = no_formulas
  all_closed_over z k (formula_and f fs) = formula_and (closed_over z k f) (all_closed_over z k fs)

-- several variables bound together, the last one innermost
abbrev pub closed_over_each : List ℕ → Formula → Formula
closed_over_each [] f = f
closed_over_each (z ∷ zs) f = closed_over z (length zs) (closed_over_each zs f)
