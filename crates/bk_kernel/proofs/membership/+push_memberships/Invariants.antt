use Rattle.std.proofs.Common.{length}
use Rattle.bk_kernel.proofs.membership.+push_memberships.Given as goal

abbrev pub decreases-push_memberships : goal.decreases-push_memberships
decreases-push_memberships l = length l.ranges.now
