use Rattle.std.proofs.Common.{length}
use Rattle.bk_p_sub.proofs.Fronts.{NamesSoFar}
use Rattle.bk_p_sub.proofs.front.names.Given as goal

abbrev pub invariant-loop-behind : goal.invariant-loop-behind
invariant-loop-behind l = NamesSoFar l.tokens l.all.items l.rest

abbrev pub decreases-loop-behind : goal.decreases-loop-behind
decreases-loop-behind l = length l.rest
