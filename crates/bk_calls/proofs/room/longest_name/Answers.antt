use Rattle.std.proofs.Common.{sym, arith}
use Rattle.bk_calls.proofs.Lengths.{longest_none, longest_taken}
use Rattle.bk_calls.proofs.room.longest_name.Goals as goal

pub loop-name-init : goal.loop-name-init
loop-name-init c = sym longest_none

pub loop-name-preserved : goal.loop-name-preserved
loop-name-preserved c = grind (arith, longest_taken c.args.names.now c.loop-name.name-index c.name-item.result (omega arith))
