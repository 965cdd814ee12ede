-- The variables that a substitution reads.
-- Source: B-Book.
use Rattle.std.specs.Prelude.{ℕ, not, List, [], ◌∷◌, ◌++◌, map}
use Rattle.std.specs.List.{filter}
use Rattle.bk_form.specs.Formula.{Formula, variable, unary, binary, for_all, for_some}
use Rattle.bk_form.specs.Formula.{comprehension, lambda, Formulas, no_formulas, formula_and}
use Rattle.bk_gsl.specs.Substitution.{Substitution, skip, assign, pre, guard, choice, if_else, any, seq, par, assert, becomes_such, loop}
use Rattle.bk_gsl.specs.State.{among, firsts}
use Rattle.bk_gsl.specs.Writes.{in_order}
use Rattle.bk_gsl.specs.Run.{old_of}

-- the variables of a formula, as often as they stand in it
abbrev mutual
  -- from left to right; bound variables are not among them
  pub variables_of : Formula → List ℕ
  variables_of (variable n) = n ∷ []
  variables_of (unary o a) = variables_of a
  variables_of (binary o a b) = variables_of a ++ variables_of b
  variables_of (for_all ts p) = variables_of p
  variables_of (for_some ts p) = variables_of p
  variables_of (comprehension rs p) = all_variables_of rs ++ variables_of p
  variables_of (lambda rs p v) = all_variables_of rs ++ variables_of p ++ variables_of v
  variables_of _ = []

  -- those of several formulas, one formula after another
  pub all_variables_of : Formulas → List ℕ
  all_variables_of no_formulas = []
  all_variables_of (formula_and f fs) = variables_of f ++ all_variables_of fs

-- the variables of the terms of an assignment
abbrev pub variables_of_terms : List (ℕ × Formula) → List ℕ
variables_of_terms [] = []
variables_of_terms (p ∷ ps) = variables_of p.1 ++ variables_of_terms ps

-- those that are not bound
abbrev pub outside : List ℕ → List ℕ → List ℕ
outside bound ns = filter (λ n. not (among bound n)) ns

-- each variable that stands in a formula, without those that the substitution itself binds; in x :(P) the old value of x is read
abbrev pub read : Substitution → List ℕ
read skip = []
read (assign ps) = variables_of_terms ps
read (pre p s) = variables_of p ++ read s
read (guard p s) = variables_of p ++ read s
read (choice s t) = read s ++ read t
read (if_else p s t) = variables_of p ++ read s ++ read t
read (any zs s) = outside zs (read s)
read (seq s t) = read s ++ read t
read (par s t) = read s ++ read t
read (assert p s) = variables_of p ++ read s
read (becomes_such xs p) = map (old_of xs) (outside (firsts xs) (variables_of p))
read (loop p s i v) = variables_of p ++ read s ++ variables_of i ++ variables_of v

-- the variables that it reads, in rising order, each once
abbrev pub reads : Substitution → List ℕ
reads s = in_order (read s)
