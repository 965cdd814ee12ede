use Rattle.bk_p_proof.proofs.OneAnswer.{scripts_are_one}
use Rattle.bk_p_proof.proofs.laws.scripts_are_one.Goals as goal

pub returns : goal.returns
returns c = scripts_are_one
