use Rattle.std.proofs.Common.{length}
use Rattle.bk_p_proof.proofs.Certificates.{FactsSoFar}
use Rattle.bk_p_proof.proofs.certificate.facts.Given as goal

abbrev pub invariant-loop-behind : goal.invariant-loop-behind
invariant-loop-behind l = FactsSoFar l.tokens l.all.items l.rest

abbrev pub decreases-loop-behind : goal.decreases-loop-behind
decreases-loop-behind l = length l.rest
