use Rattle.bk_code.proofs.Runs.{one_end}
use Rattle.bk_code.proofs.Sessions.{one_session}
use Rattle.bk_code.proofs.laws.ends_are_unique.Goals as goal

pub returns : goal.returns
returns c = record { end = one_end; session = one_session }
