use Rattle.bk_sim.proofs.B0Code.{b0_ends}
use Rattle.bk_sim.proofs.laws.b0_ends.Goals as goal

pub returns : goal.returns
returns c = b0_ends
