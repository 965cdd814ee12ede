-- No formula is higher than it has nodes.
use Rattle.std.proofs.Common.{◌≤◌, arith}
use Rattle.bk_form.specs.Formula.{Formula, unary, binary, for_all, for_some, comprehension, lambda, Formulas, no_formulas, formula_and, formula_size, formula_height, formulas_size, formulas_height}

mutual
  pub height_le-size : (a : Formula) → formula_height a ≤ formula_size a
  height_le-size (unary o a) = omega (arith, height_le-size a)
  height_le-size (binary o a b) = omega (arith, height_le-size a, height_le-size b)
  height_le-size (for_all ts p) = omega (arith, height_le-size p)
  height_le-size (for_some ts p) = omega (arith, height_le-size p)
  height_le-size (comprehension rs p) = omega (arith, heights_le-sizes rs, height_le-size p)
  height_le-size (lambda rs p v) = omega (arith, heights_le-sizes rs, height_le-size p, height_le-size v)
  height_le-size _ = omega arith

  pub heights_le-sizes : (fs : Formulas) → formulas_height fs ≤ formulas_size fs
  heights_le-sizes no_formulas = omega arith
  heights_le-sizes (formula_and a fs) = omega (arith, height_le-size a, heights_le-sizes fs)

pub ruleset heights = (height_le-size, heights_le-sizes)
