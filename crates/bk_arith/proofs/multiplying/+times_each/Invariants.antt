use Rattle.std.proofs.Common.{length}
use Rattle.bk_arith.proofs.multiplying.+times_each.Given as goal

abbrev pub decreases-times_each : goal.decreases-times_each
decreases-times_each l = length l.list.now
