use Rattle.bk_program.proofs.Following.{proved_developments_follow}
use Rattle.bk_program.proofs.laws.proved_developments_follow.Goals as goal

pub returns : goal.returns
returns c = proved_developments_follow
