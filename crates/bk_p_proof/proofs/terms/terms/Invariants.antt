use Rattle.std.proofs.Common.{length}
use Rattle.bk_p_proof.proofs.TermLists.{TermsSoFar}
use Rattle.bk_p_proof.proofs.terms.terms.Given as goal

abbrev pub invariant-loop-behind : goal.invariant-loop-behind
invariant-loop-behind l = TermsSoFar l.tokens l.all l.rest

abbrev pub decreases-loop-behind : goal.decreases-loop-behind
decreases-loop-behind l = length l.rest
