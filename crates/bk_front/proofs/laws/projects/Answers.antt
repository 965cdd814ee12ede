use Rattle.bk_front.proofs.OneReading.{read_as_one, faults_exclude}
use Rattle.bk_front.proofs.laws.projects.Goals as goal

pub returns-clause-one : goal.returns-clause-one
returns-clause-one c = read_as_one

pub returns-clause-exclude : goal.returns-clause-exclude
returns-clause-exclude c = faults_exclude
