use Rattle.std.proofs.Common.{length}
use Rattle.bk_p_comp.proofs.Follows.{ClausesSoFar}
use Rattle.bk_p_comp.proofs.clause.clauses.Given as goal

abbrev pub invariant-loop-done : goal.invariant-loop-done
invariant-loop-done l = ClausesSoFar l.kind l.tokens l.done l.rest

abbrev pub decreases-loop-done : goal.decreases-loop-done
decreases-loop-done l = length l.rest
