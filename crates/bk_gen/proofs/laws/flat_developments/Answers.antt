use Rattle.bk_gen.proofs.SameCode.{codes-same}
use Rattle.bk_gen.proofs.laws.flat_developments.Goals as goal

pub returns : goal.returns
returns c = codes-same
