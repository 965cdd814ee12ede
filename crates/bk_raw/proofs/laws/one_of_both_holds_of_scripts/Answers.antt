use Rattle.bk_raw.proofs.Faults.{one-holds-of-scripts}
use Rattle.bk_raw.proofs.laws.one_of_both_holds_of_scripts.Goals as goal

pub returns : goal.returns
returns c = one-holds-of-scripts
