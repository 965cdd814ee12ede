use Rattle.std.proofs.Common.{◌+◌, ◌*◌}
use Rattle.bk_laws.proofs.build.+asks.Given as goal

abbrev pub decreases-asks_empty : goal.decreases-asks_empty
decreases-asks_empty l = 2 * l.depth

abbrev pub decreases-node_asks : goal.decreases-node_asks
decreases-node_asks l = 2 * l.depth + 1
