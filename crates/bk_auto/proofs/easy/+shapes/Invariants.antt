use Rattle.std.proofs.Common.{◌+◌, ◌*◌}
use Rattle.bk_form.specs.Formula.{formula_size}
use Rattle.bk_auto.proofs.easy.+shapes.Given as goal

abbrev pub decreases-easy : goal.decreases-easy
decreases-easy l = 4 * formula_size l.sequent.now.goal + 3

abbrev pub decreases-by_shape : goal.decreases-by_shape
decreases-by_shape l = 4 * formula_size l.sequent.now.goal + 2

abbrev pub decreases-by_sides : goal.decreases-by_sides
decreases-by_sides l = 4 * formula_size l.sequent.now.goal + 1

abbrev pub decreases-both : goal.decreases-both
decreases-both l = 4 * formula_size l.sequent.now.goal

abbrev pub decreases-supposing : goal.decreases-supposing
decreases-supposing l = 4 * formula_size l.sequent.now.goal

abbrev pub decreases-fixing : goal.decreases-fixing
decreases-fixing l = 4 * formula_size l.sequent.now.goal
