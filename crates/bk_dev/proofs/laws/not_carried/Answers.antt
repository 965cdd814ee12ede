use Rattle.bk_dev.proofs.Uncarried.{are_not_carried}
use Rattle.bk_dev.proofs.laws.not_carried.Goals as goal

pub returns : goal.returns
returns c = are_not_carried
