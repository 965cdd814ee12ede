use Rattle.bk_raw.proofs.Faults.{component-or-fault}
use Rattle.bk_raw.proofs.laws.decided_is_one_of_both.Goals as goal

pub returns : goal.returns
returns c = component-or-fault
