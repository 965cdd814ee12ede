use Rattle.std.proofs.Common.{◌+◌, ◌*◌}
use Rattle.bk_form.specs.Formula.{formula_size, formulas_size, formulas_of}
use Rattle.bk_bind.proofs.bound.+height.Given as goal

abbrev pub decreases-height_after : goal.decreases-height_after
decreases-height_after l = 2 * formula_size l.form.now

abbrev pub decreases-height_after_all : goal.decreases-height_after_all
decreases-height_after_all l = 2 * formulas_size (formulas_of l.forms.now) + 1
