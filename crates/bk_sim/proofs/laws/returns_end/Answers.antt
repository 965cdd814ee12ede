use Rattle.bk_sim.proofs.Followed.{returns_end}
use Rattle.bk_sim.proofs.laws.returns_end.Goals as goal

pub returns : goal.returns
returns c = returns_end
