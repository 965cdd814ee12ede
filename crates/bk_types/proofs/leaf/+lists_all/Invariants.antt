use Rattle.std.proofs.Common.{length}
use Rattle.bk_types.proofs.leaf.+lists_all.Given as goal

abbrev pub decreases-lists_all : goal.decreases-lists_all
decreases-lists_all l = length l.types.now
