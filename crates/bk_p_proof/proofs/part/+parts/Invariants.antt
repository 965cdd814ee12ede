use Rattle.std.proofs.Common.{length}
use Rattle.bk_p_proof.proofs.part.+parts.Given as goal

abbrev pub decreases-parts : goal.decreases-parts
decreases-parts l = length l.kinds.now
