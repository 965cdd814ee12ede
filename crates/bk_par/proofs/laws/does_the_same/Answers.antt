use Rattle.bk_par.proofs.FlatMeans.{flat_does_the_same}
use Rattle.bk_par.proofs.laws.does_the_same.Goals as goal

pub returns : goal.returns
returns c = flat_does_the_same
