use Rattle.bk_gsl.proofs.Outside.{avoided_does_not_matter}
use Rattle.bk_gsl.proofs.laws.avoided.Goals as goal

pub returns : goal.returns
returns c = avoided_does_not_matter
