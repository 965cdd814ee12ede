use Rattle.std.proofs.Common.{◌+◌, ◌*◌}
use Rattle.bk_form.specs.Formula.{formula_size, formulas_size, formulas_of}
use Rattle.bk_bind.proofs.opening.+height.Given as goal

abbrev pub decreases-height_opened : goal.decreases-height_opened
decreases-height_opened l = 2 * formula_size l.form.now

abbrev pub decreases-height_opened_all : goal.decreases-height_opened_all
decreases-height_opened_all l = 2 * formulas_size (formulas_of l.forms.now) + 1
