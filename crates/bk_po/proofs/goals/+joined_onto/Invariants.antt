use Rattle.std.proofs.Common.{length}
use Rattle.bk_po.proofs.goals.+joined_onto.Given as goal

abbrev pub decreases-joined_onto : goal.decreases-joined_onto
decreases-joined_onto l = length l.others.now
