-- Formulas of the B Method as mathematical trees.
-- Source: B-Book; the encoding is this project's.
use Rattle.std.specs.Prelude.{ℕ, ℤ, Bool, ◌+◌, max, List, [], ◌∷◌}
use Rattle.bk_val.specs.ValueType.{ValueType}
use Rattle.bk_form.specs.declared.operator.BinOp.{BinOp}
use Rattle.bk_form.specs.declared.operator.UnOp.{UnOp}
use Rattle.bk_form.specs.declared.operator.Domain.{Domain}

mutual
  -- an expression or a predicate
  pub data Formula : Type 0 where
    -- the variable of this number
    variable : ℕ → Formula
    -- a bound variable, counted outward from the innermost one; the last of a binder's variables is the innermost
    bound : ℕ → Formula
    -- a whole number
    literal : ℤ → Formula
    -- TRUE or FALSE
    truth_value : Bool → Formula
    -- an element of an enumerated set: the set's number and the element's
    element : ℕ → ℕ → Formula
    -- the empty set of this type, which is the type of the whole set
    empty_set : ValueType → Formula
    -- a set that has a name
    named : Domain → Formula
    -- the predicate that always holds
    btrue : Formula
    -- the predicate that never holds
    bfalse : Formula
    -- an operator on one formula
    unary : UnOp → Formula → Formula
    -- an operator on two formulas
    binary : BinOp → Formula → Formula → Formula
    -- the body holds for all values of these types
    for_all : List ValueType → Formula → Formula
    -- the body holds for some values of these types
    for_some : List ValueType → Formula → Formula
    -- the elements of the ranges for which the body holds, several as pairs to the left; the ranges stand outside the binder
    comprehension : Formulas → Formula → Formula
    -- the function from the elements of the ranges for which the body holds to the value
    lambda : Formulas → Formula → Formula → Formula

  -- a list of formulas
  pub data Formulas : Type 0 where
    no_formulas : Formulas
    formula_and : Formula → Formulas → Formulas

-- how many nodes it has
abbrev mutual
  pub formula_size : Formula → ℕ
  formula_size (variable n) = 1
  formula_size (bound n) = 1
  formula_size (literal z) = 1
  formula_size (truth_value b) = 1
  formula_size (element s n) = 1
  formula_size (empty_set t) = 1
  formula_size (named d) = 1
  formula_size btrue = 1
  formula_size bfalse = 1
  formula_size (unary o a) = formula_size a + 1
  formula_size (binary o a b) = formula_size a + formula_size b + 1
  formula_size (for_all ts p) = formula_size p + 1
  formula_size (for_some ts p) = formula_size p + 1
  formula_size (comprehension rs p) = formulas_size rs + formula_size p + 1
  formula_size (lambda rs p v) = formulas_size rs + formula_size p + formula_size v + 1

  -- the nodes of all of them together
  pub formulas_size : Formulas → ℕ
  formulas_size no_formulas = 0
  formulas_size (formula_and a fs) = formula_size a + formulas_size fs

-- how many nodes lie on its longest way down
abbrev mutual
  pub formula_height : Formula → ℕ
  formula_height (variable n) = 1
  formula_height (bound n) = 1
  formula_height (literal z) = 1
  formula_height (truth_value b) = 1
  formula_height (element s n) = 1
  formula_height (empty_set t) = 1
  formula_height (named d) = 1
  formula_height btrue = 1
  formula_height bfalse = 1
  formula_height (unary o a) = formula_height a + 1
  formula_height (binary o a b) = max (formula_height a) (formula_height b) + 1
  formula_height (for_all ts p) = formula_height p + 1
  formula_height (for_some ts p) = formula_height p + 1
  formula_height (comprehension rs p) = max (formulas_height rs) (formula_height p) + 1
  formula_height (lambda rs p v) = max (formulas_height rs) (max (formula_height p) (formula_height v)) + 1

  -- the highest of them counts, and none counts 0
  pub formulas_height : Formulas → ℕ
  formulas_height no_formulas = 0
  formulas_height (formula_and a fs) = max (formula_height a) (formulas_height fs)

-- these formulas, one after another
abbrev pub formulas_of : List Formula → Formulas
formulas_of [] = no_formulas
formulas_of (a ∷ fs) = formula_and a (formulas_of fs)

-- the list of them
abbrev pub list_of_formulas : Formulas → List Formula
list_of_formulas no_formulas = []
list_of_formulas (formula_and a fs) = a ∷ list_of_formulas fs
