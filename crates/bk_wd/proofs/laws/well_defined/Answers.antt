use Rattle.bk_wd.proofs.Exact.{defined_is_exact}
use Rattle.bk_wd.proofs.laws.well_defined.Goals as goal

pub returns : goal.returns
returns c = defined_is_exact
