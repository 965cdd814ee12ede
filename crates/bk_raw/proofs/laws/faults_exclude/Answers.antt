use Rattle.bk_raw.proofs.Places.{faults-exclude}
use Rattle.bk_raw.proofs.laws.faults_exclude.Goals as goal

pub returns : goal.returns
returns c = faults-exclude
