use Rattle.std.proofs.Common.{length}
use Rattle.bk_po.proofs.goals.+each_after.Given as goal

abbrev pub decreases-each_after : goal.decreases-each_after
decreases-each_after l = length l.assertions.now
