use Rattle.std.proofs.Common.{length}
use Rattle.bk_kernel.proofs.membership.+joined.Given as goal

abbrev pub decreases-joined : goal.decreases-joined
decreases-joined l = length l.others.now
