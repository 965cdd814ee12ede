use Rattle.bk_sim.proofs.Tower.{tower_is_followed}
use Rattle.bk_sim.proofs.laws.tower.Goals as goal

pub returns : goal.returns
returns c = tower_is_followed
