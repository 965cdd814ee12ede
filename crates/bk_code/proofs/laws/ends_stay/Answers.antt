use Rattle.bk_code.proofs.Runs.{stays_done, stays_trapped}
use Rattle.bk_code.proofs.laws.ends_stay.Goals as goal

pub returns : goal.returns
returns c = record { done = stays_done; trapped = stays_trapped }
