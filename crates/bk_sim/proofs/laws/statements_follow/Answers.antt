use Rattle.bk_sim.proofs.Followed.{statements_follow}
use Rattle.bk_sim.proofs.laws.statements_follow.Goals as goal

pub returns : goal.returns
returns c = statements_follow
