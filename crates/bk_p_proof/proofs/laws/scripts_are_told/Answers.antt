use Rattle.bk_p_proof.proofs.SomeScripts.{scripts_are_told}
use Rattle.bk_p_proof.proofs.laws.scripts_are_told.Goals as goal

pub returns : goal.returns
returns c = scripts_are_told
