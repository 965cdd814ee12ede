use Rattle.std.proofs.Common.{length}
use Rattle.bk_po.proofs.goals.+defined_in_turn.Given as goal

abbrev pub decreases-defined_in_turn : goal.decreases-defined_in_turn
decreases-defined_in_turn l = length l.assertions.now
