use Rattle.std.specs.Prelude.{slice_get}
use Rattle.bk_auto.proofs.Loops.{outside}
use Rattle.bk_auto.proofs.variables.is_in_set.Goals as goal

pub returns-else-is_name_of : goal.returns-else-is_name_of
returns-else-is_name_of c = λ e. outside (slice_get c.args.table.now.sets c.args.set) c.args.text.now (c.is_name_of.ensures c.if-is_name_of.false) (c.is_element.ensures e)
