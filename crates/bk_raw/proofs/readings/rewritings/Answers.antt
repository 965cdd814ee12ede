use Rattle.bk_raw.proofs.RewritesRight.{rewritings}
use Rattle.bk_raw.proofs.readings.rewritings.Goals as goal

pub returns : goal.returns
returns c = rewritings
