use Rattle.std.proofs.Common.{length}
use Rattle.bk_p_proof.proofs.FileRead.{ScriptsSoFar}
use Rattle.bk_p_proof.proofs.reading.file_scripts.Given as goal

abbrev pub invariant-loop-rest : goal.invariant-loop-rest
invariant-loop-rest l = ScriptsSoFar l.tokens l.scripts.items l.is_high l.rest

abbrev pub decreases-loop-rest : goal.decreases-loop-rest
decreases-loop-rest l = length l.rest
