use Rattle.bk_sim.proofs.B0Code.{equal_follows}
use Rattle.bk_sim.proofs.laws.equal_follows.Goals as goal

pub returns : goal.returns
returns c = equal_follows
