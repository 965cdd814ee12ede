-- The parts of a formula are smaller than the formula.
use Rattle.std.specs.Prelude.{◌+◌, ◌≤◌, max, List, [], ◌∷◌}
use Rattle.std.proofs.Common.{arith}
use denote.Param.Weighed.{most}
use Rattle.bk_form.specs.Formula.{Formula, formula_size, formulas_size, formulas_of}
use Rattle.bk_form.specs.Codes.FormView.{made}
use Rattle.bk_form.specs.declared.form.Part.{Part}
use Rattle.bk_form.specs.declared.form.Part.TheVariants.{Compr, Lam}
use Rattle.bk_form.specs.declared.form.Form.TheDeep.{deep-Part}

-- no formula of a list has more nodes than all of them together
pub most_le-formulas_size : (fs : List Formula) → most (λ a. formula_size a + 1) fs ≤ formulas_size (formulas_of fs) + 1
most_le-formulas_size [] = omega arith
most_le-formulas_size (a ∷ fs) = omega (arith, most_le-formulas_size fs)

-- each part of a formula is smaller than the formula, so that a recursion into the parts ends
pub part_falls : (p : Part) → max (max (deep-Part p) 0) 0 ≤ formula_size (made p)
part_falls (Compr rs q) = omega (arith, most_le-formulas_size rs.items)
part_falls (Lam rs q v) = omega (arith, most_le-formulas_size rs.items)
part_falls _ = omega arith
