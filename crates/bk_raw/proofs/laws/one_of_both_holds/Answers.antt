use Rattle.bk_raw.proofs.Faults.{one-holds}
use Rattle.bk_raw.proofs.laws.one_of_both_holds.Goals as goal

pub returns : goal.returns
returns c = one-holds
