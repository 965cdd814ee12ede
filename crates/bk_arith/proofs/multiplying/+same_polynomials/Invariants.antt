use Rattle.std.proofs.Common.{length}
use Rattle.bk_arith.proofs.multiplying.+same_polynomials.Given as goal

abbrev pub decreases-same_polynomials : goal.decreases-same_polynomials
decreases-same_polynomials l = length l.left.now
