use Rattle.bk_par.proofs.FlatTypes.{flat_is_flat}
use Rattle.bk_par.proofs.laws.flat.Goals as goal

pub returns : goal.returns
returns c = flat_is_flat
