use Rattle.std.proofs.Common.{◌+◌, ◌*◌}
use Rattle.bk_form.specs.Formula.{formula_size, formulas_size, formulas_of}
use Rattle.bk_types.proofs.typing.+role.Given as goal

abbrev pub decreases-role_under : goal.decreases-role_under
decreases-role_under l = 4 * formula_size l.form.now

abbrev pub decreases-role_inside : goal.decreases-role_inside
decreases-role_inside l = 4 * formula_size l.body.now + 1

abbrev pub decreases-quantified : goal.decreases-quantified
decreases-quantified l = 4 * formula_size l.body.now + 2

abbrev pub decreases-push_elements : goal.decreases-push_elements
decreases-push_elements l = 4 * formulas_size (formulas_of l.ranges.now) + 1

abbrev pub decreases-range_types : goal.decreases-range_types
decreases-range_types l = 4 * formulas_size (formulas_of l.ranges.now) + 2

abbrev pub decreases-comprehension : goal.decreases-comprehension
decreases-comprehension l = 4 * (formulas_size (formulas_of l.ranges.now) + formula_size l.body.now) + 3

abbrev pub decreases-lambda : goal.decreases-lambda
decreases-lambda l =
    4 * (formulas_size (formulas_of l.ranges.now) + formula_size l.body.now + formula_size l.image.now) + 3
