use Rattle.bk_raw.proofs.Insides.{longest-is-one}
use Rattle.bk_raw.proofs.laws.longest_is_one.Goals as goal

pub returns : goal.returns
returns c = longest-is-one
