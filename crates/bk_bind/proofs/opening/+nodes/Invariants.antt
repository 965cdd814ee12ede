use Rattle.std.proofs.Common.{◌+◌, ◌*◌}
use Rattle.bk_form.specs.Formula.{formula_size, formulas_size, formulas_of}
use Rattle.bk_bind.proofs.opening.+nodes.Given as goal

abbrev pub decreases-nodes_opened : goal.decreases-nodes_opened
decreases-nodes_opened l = 2 * formula_size l.form.now

abbrev pub decreases-nodes_opened_all : goal.decreases-nodes_opened_all
decreases-nodes_opened_all l = 2 * formulas_size (formulas_of l.forms.now) + 1
