use Rattle.bk_sources.proofs.OneFault.{faults_are_one_of}
use Rattle.bk_sources.proofs.laws.faults_are_one.Goals as goal

pub returns : goal.returns
returns c = faults_are_one_of
