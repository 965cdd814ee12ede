use Rattle.bk_arith.proofs.Accepted.{accepted_is_valid}
use Rattle.bk_arith.proofs.laws.accepted_is_valid.Goals as goal

pub returns : goal.returns
returns c = accepted_is_valid
