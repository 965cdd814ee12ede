use Rattle.std.proofs.Common.{length, map}
use Rattle.bk_raw.specs.Codes.ScriptView.{line_of}
use Rattle.bk_p_proof.proofs.Certificates.{LinesSoFar}
use Rattle.bk_p_proof.proofs.certificate.lines.Given as goal

abbrev pub invariant-loop-behind : goal.invariant-loop-behind
invariant-loop-behind l = LinesSoFar l.tokens (map line_of l.all.items) l.rest

abbrev pub decreases-loop-behind : goal.decreases-loop-behind
decreases-loop-behind l = length l.rest
