-- The parts of formulas.
use Rattle.std.specs.Prelude.{◌≡◌, ◌⊎◌}
use Rattle.bk_form.specs.Formula.{Formula, unary, binary, for_all, for_some, comprehension, lambda, Formulas, no_formulas, formula_and}

-- the property holds of each formula
abbrev pub EachIs : (Formula → Type 0) → Formulas → Type 0
EachIs P no_formulas = Unit {0}
EachIs P (formula_and f fs) = P f × EachIs P fs

-- the property holds of each formula that it is made of directly: operands, bodies, ranges and values
abbrev pub PartsAre : (Formula → Type 0) → Formula → Type 0
PartsAre P (unary o a) = P a
PartsAre P (binary o a b) = P a × P b
PartsAre P (for_all ts p) = P p
PartsAre P (for_some ts p) = P p
PartsAre P (comprehension rs p) = EachIs P rs × P p
PartsAre P (lambda rs p v) = EachIs P rs × P p × P v
PartsAre P _ = Unit {0}

abbrev mutual
  -- g is f or a part of it
  pub IsPart : Formula → Formula → Type 0
  IsPart g (unary o a) = (g ≡ unary o a) ⊎ IsPart g a
  IsPart g (binary o a b) = (g ≡ binary o a b) ⊎ (IsPart g a ⊎ IsPart g b)
  IsPart g (for_all ts p) = (g ≡ for_all ts p) ⊎ IsPart g p
  IsPart g (for_some ts p) = (g ≡ for_some ts p) ⊎ IsPart g p
  IsPart g (comprehension rs p) = (g ≡ comprehension rs p) ⊎ (IsPartOfOne g rs ⊎ IsPart g p)
  IsPart g (lambda rs p v) = (g ≡ lambda rs p v) ⊎ (IsPartOfOne g rs ⊎ (IsPart g p ⊎ IsPart g v))
  IsPart g f = g ≡ f

  -- g is one of these formulas, or a part of one
  pub IsPartOfOne : Formula → Formulas → Type 0
  IsPartOfOne g no_formulas = ⊥
  IsPartOfOne g (formula_and f fs) = IsPart g f ⊎ IsPartOfOne g fs
