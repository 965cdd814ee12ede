use Rattle.std.proofs.Common.{length}
use Rattle.bk_p_proof.proofs.Certificates.{SumSoFar}
use Rattle.bk_p_proof.proofs.certificate.multiples.Given as goal

abbrev pub invariant-loop-behind : goal.invariant-loop-behind
invariant-loop-behind l = SumSoFar l.tokens l.all.items l.rest

abbrev pub decreases-loop-behind : goal.decreases-loop-behind
decreases-loop-behind l = length l.rest
