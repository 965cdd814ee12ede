use Rattle.bk_gsl.proofs.Reading.{read_decides}
use Rattle.bk_gsl.proofs.laws.read_decides.Goals as goal

pub returns : goal.returns
returns c = read_decides
