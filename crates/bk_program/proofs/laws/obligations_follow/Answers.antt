use Rattle.bk_program.proofs.Following.{valid_obligations_follow}
use Rattle.bk_program.proofs.laws.obligations_follow.Goals as goal

pub returns : goal.returns
returns c = valid_obligations_follow
