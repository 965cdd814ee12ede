use Rattle.bk_auto.proofs.Loops.{not_taken}
use Rattle.bk_auto.proofs.variables.is_taken.Goals as goal

pub returns-else-is_variable : goal.returns-else-is_variable
returns-else-is_variable c = λ e. not_taken c.args.table.now c.args.text.now (c.is_variable.ensures c.if-is_variable.false) (c.is_of_set.ensures e)
