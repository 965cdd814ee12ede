use Rattle.std.proofs.Common.{length}
use Rattle.bk_arith.proofs.multiplying.+all_subtracted.Given as goal

abbrev pub decreases-all_subtracted : goal.decreases-all_subtracted
decreases-all_subtracted l = length l.list.now
