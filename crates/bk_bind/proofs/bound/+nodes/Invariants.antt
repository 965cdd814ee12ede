use Rattle.std.proofs.Common.{◌+◌, ◌*◌}
use Rattle.bk_form.specs.Formula.{formula_size, formulas_size, formulas_of}
use Rattle.bk_bind.proofs.bound.+nodes.Given as goal

abbrev pub decreases-nodes_after : goal.decreases-nodes_after
decreases-nodes_after l = 2 * formula_size l.form.now

abbrev pub decreases-nodes_after_all : goal.decreases-nodes_after_all
decreases-nodes_after_all l = 2 * formulas_size (formulas_of l.forms.now) + 1
