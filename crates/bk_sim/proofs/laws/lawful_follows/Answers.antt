use Rattle.bk_sim.proofs.B0Code.{lawful_follows}
use Rattle.bk_sim.proofs.laws.lawful_follows.Goals as goal

pub returns : goal.returns
returns c = lawful_follows
