use Rattle.std.proofs.Common.{arith}
use Rattle.bk_auto.proofs.Loops.{all_outside}
use Rattle.bk_auto.proofs.variables.is_of_set.Goals as goal

pub returns : goal.returns
returns c = λ e. all_outside c.args.table.now c.loop-set.set c.args.text.now (omega (arith, c.sets-set-end.ensures.value)) c.loop-set.invariant
