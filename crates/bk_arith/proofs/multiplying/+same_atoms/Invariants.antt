use Rattle.std.proofs.Common.{length}
use Rattle.bk_arith.proofs.multiplying.+same_atoms.Given as goal

abbrev pub decreases-same_atoms : goal.decreases-same_atoms
decreases-same_atoms l = length l.left.now
