use Rattle.std.proofs.Common.{length}
use Rattle.bk_p_sub.proofs.Fronts.{TermsSoFar}
use Rattle.bk_p_sub.proofs.front.terms.Given as goal

abbrev pub invariant-loop-behind : goal.invariant-loop-behind
invariant-loop-behind l = TermsSoFar l.tokens l.all l.rest

abbrev pub decreases-loop-behind : goal.decreases-loop-behind
decreases-loop-behind l = length l.rest
