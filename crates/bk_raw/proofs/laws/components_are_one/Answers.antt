use Rattle.bk_raw.proofs.ComponentOne.{one-component}
use Rattle.bk_raw.proofs.laws.components_are_one.Goals as goal

pub returns : goal.returns
returns c = one-component
