use Rattle.std.proofs.Common.{length}
use Rattle.bk_p_proof.proofs.Names.{NameSoFar}
use Rattle.bk_p_proof.proofs.name.name.Given as goal

abbrev pub invariant-loop-behind : goal.invariant-loop-behind
invariant-loop-behind l = NameSoFar l.tokens l.all.items l.rest

abbrev pub decreases-loop-behind : goal.decreases-loop-behind
decreases-loop-behind l = length l.rest
