use Rattle.std.proofs.Common.{length}
use Rattle.bk_seq.proofs.path.+build.Given as goal

abbrev pub decreases-build : goal.decreases-build
decreases-build l = length l.path.now
