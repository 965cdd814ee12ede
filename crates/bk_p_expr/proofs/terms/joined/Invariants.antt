use Rattle.std.proofs.Common.{vec_len}
use Rattle.bk_p_expr.proofs.Powers.{JoinedSoFar}
use Rattle.bk_p_expr.proofs.terms.joined.Given as goal

abbrev pub invariant-loop-at : goal.invariant-loop-at
invariant-loop-at l = JoinedSoFar l.fn.bases.items l.fn.last l.bases.items l.right

abbrev pub decreases-loop-at : goal.decreases-loop-at
decreases-loop-at l = vec_len l.bases
