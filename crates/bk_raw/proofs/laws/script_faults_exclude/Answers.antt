use Rattle.bk_raw.proofs.ScriptPlaces.{script-faults-exclude}
use Rattle.bk_raw.proofs.laws.script_faults_exclude.Goals as goal

pub returns : goal.returns
returns c = script-faults-exclude
