use Rattle.std.proofs.Common.{length}
use Rattle.bk_arith.proofs.multiplying.+product.Given as goal

abbrev pub decreases-product : goal.decreases-product
decreases-product l = length l.left.now
