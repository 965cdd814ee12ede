use Rattle.std.proofs.Common.{◌≡◌, ◌+◌, ◌*◌, ◌++◌, suc, take}
use Rattle.bk_form.specs.Formula.{formula_size, formulas_size, formulas_of}
use Rattle.bk_show.specs.Items.{text_of}
use Rattle.bk_show.specs.Shown.{ranges_items}
use Rattle.bk_show.proofs.form.+form.Given as goal

abbrev pub decreases-write_form : goal.decreases-write_form
decreases-write_form l = 4 * formula_size l.form.now

abbrev pub decreases-write_enclosed : goal.decreases-write_enclosed
decreases-write_enclosed l = 4 * formula_size l.form.now + 1

abbrev pub decreases-write_part : goal.decreases-write_part
decreases-write_part l = 4 * formula_size l.form.now + 2

abbrev pub decreases-write_head : goal.decreases-write_head
decreases-write_head l = 4 * formula_size l.form.now + 2

abbrev pub decreases-write_unary : goal.decreases-write_unary
decreases-write_unary l = 4 * formula_size l.operand.now + 3

abbrev pub decreases-write_binary : goal.decreases-write_binary
decreases-write_binary l = 4 * (formula_size l.left.now + formula_size l.right.now) + 3

abbrev pub decreases-write_binder : goal.decreases-write_binder
decreases-write_binder l = 4 * formula_size l.body.now + 2

abbrev pub decreases-write_comprehension : goal.decreases-write_comprehension
decreases-write_comprehension l = 4 * (formulas_size (formulas_of l.ranges.now) + formula_size l.body.now) + 3

abbrev pub decreases-write_lambda : goal.decreases-write_lambda
decreases-write_lambda l =
    4 * (formulas_size (formulas_of l.ranges.now) + formula_size l.body.now + formula_size l.value.now) + 3

abbrev pub decreases-write_ranges : goal.decreases-write_ranges
decreases-write_ranges l = 4 * formulas_size (formulas_of l.ranges.now) + 3

abbrev pub invariant-write_ranges-loop-index : goal.invariant-write_ranges-loop-index
invariant-write_ranges-loop-index l = l.out.items ≡ l.fn.out.items ++ text_of (ranges_items l.table l.around (suc l.around) (formulas_of (take l.index l.ranges)))
