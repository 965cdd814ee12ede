use Rattle.std.proofs.Common.{◌+◌, ◌*◌}
use Rattle.bk_form.specs.Formula.{formula_size}
use Rattle.bk_gen.proofs.value.+value.Given as goal

abbrev pub decreases-add_value : goal.decreases-add_value
decreases-add_value l = 4 * formula_size l.form.now

abbrev pub decreases-add_operation : goal.decreases-add_operation
decreases-add_operation l = 4 * (formula_size l.left.now + formula_size l.right.now) + 2

abbrev pub decreases-add_calculation : goal.decreases-add_calculation
decreases-add_calculation l = 4 * (formula_size l.left.now + formula_size l.right.now) + 1

abbrev pub decreases-add_element : goal.decreases-add_element
decreases-add_element l = 4 * formula_size l.index.now + 1

abbrev pub decreases-add_both : goal.decreases-add_both
decreases-add_both l = 4 * (formula_size l.left.now + formula_size l.right.now) + 1

abbrev pub decreases-add_either : goal.decreases-add_either
decreases-add_either l = 4 * (formula_size l.left.now + formula_size l.right.now) + 1
