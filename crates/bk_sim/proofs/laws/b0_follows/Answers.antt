use Rattle.bk_sim.proofs.B0Code.{b0_follows}
use Rattle.bk_sim.proofs.laws.b0_follows.Goals as goal

pub returns : goal.returns
returns c = b0_follows
