use Rattle.bk_wd.proofs.Fitting.{checked_is_exact}
use Rattle.bk_wd.proofs.laws.executed.Goals as goal

pub returns : goal.returns
returns c = checked_is_exact
