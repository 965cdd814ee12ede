use Rattle.bk_gsl.proofs.Examples.{precondition-means}
use Rattle.bk_gsl.proofs.laws.precondition_means.Goals as goal

pub returns : goal.returns
returns c = precondition-means
