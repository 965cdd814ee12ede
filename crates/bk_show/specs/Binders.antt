-- Formulas whose binders bind something.
use Rattle.std.specs.Prelude.{List, [], ◌∷◌}
use Rattle.bk_val.specs.ValueType.{ValueType}
use Rattle.bk_form.specs.Formula.{Formula, unary, binary, for_all, for_some, comprehension, lambda, Formulas, no_formulas, formula_and}

-- at least one type
abbrev pub HasSomeType : List ValueType → Type 0
HasSomeType [] = ⊥
HasSomeType (t ∷ ts) = Unit {0}

-- at least one range
abbrev pub HasSomeRange : Formulas → Type 0
HasSomeRange no_formulas = ⊥
HasSomeRange (formula_and f fs) = Unit {0}

abbrev mutual
  -- each binder in the formula binds at least one variable
  pub Binds : Formula → Type 0
  Binds (unary o a) = Binds a
  Binds (binary o a b) = Binds a × Binds b
  Binds (for_all ts p) = HasSomeType ts × Binds p
  Binds (for_some ts p) = HasSomeType ts × Binds p
  Binds (comprehension rs p) = HasSomeRange rs × EachBinds rs × Binds p
  Binds (lambda rs p e) = HasSomeRange rs × EachBinds rs × Binds p × Binds e
  Binds _ = Unit {0}

  pub EachBinds : Formulas → Type 0
  EachBinds no_formulas = Unit {0}
  EachBinds (formula_and f fs) = Binds f × EachBinds fs
