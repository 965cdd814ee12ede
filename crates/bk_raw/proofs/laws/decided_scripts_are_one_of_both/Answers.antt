use Rattle.bk_raw.proofs.Faults.{scripts-or-fault}
use Rattle.bk_raw.proofs.laws.decided_scripts_are_one_of_both.Goals as goal

pub returns : goal.returns
returns c = scripts-or-fault
