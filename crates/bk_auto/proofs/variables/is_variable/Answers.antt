use Rattle.std.proofs.Common.{arith}
use Rattle.bk_auto.proofs.Loops.{no_variable}
use Rattle.bk_auto.proofs.variables.is_variable.Goals as goal

pub returns : goal.returns
returns c = λ e. no_variable c.args.table.now c.loop-variable.variable c.args.text.now (omega (arith, c.variables-variable-end.ensures.value)) c.loop-variable.invariant
