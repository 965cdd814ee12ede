use Rattle.bk_p_proof.proofs.OneAnswer.{faults_exclude}
use Rattle.bk_p_proof.proofs.laws.faults_exclude.Goals as goal

pub returns : goal.returns
returns c = faults_exclude
