use Rattle.std.proofs.Common.{◌+◌, ◌*◌}
use Rattle.bk_laws.proofs.build.+pattern.Given as goal

abbrev pub decreases-pattern : goal.decreases-pattern
decreases-pattern l = 2 * l.depth

abbrev pub decreases-node : goal.decreases-node
decreases-node l = 2 * l.depth + 1
