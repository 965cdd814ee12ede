use Rattle.bk_raw.proofs.SubOne.{one-spelled}
use Rattle.bk_raw.proofs.laws.substitutions_are_one.Goals as goal

pub returns : goal.returns
returns c = one-spelled
