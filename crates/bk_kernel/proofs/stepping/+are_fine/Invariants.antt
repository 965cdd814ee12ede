use Rattle.std.proofs.Common.{length}
use Rattle.bk_kernel.proofs.stepping.+are_fine.Given as goal

abbrev pub decreases-are_fine : goal.decreases-are_fine
decreases-are_fine l = length l.branches.now
