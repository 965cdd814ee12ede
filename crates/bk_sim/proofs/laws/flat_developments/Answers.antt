use Rattle.bk_sim.proofs.Moving.{followed_where_flattened}
use Rattle.bk_sim.proofs.laws.flat_developments.Goals as goal

pub returns : goal.returns
returns c = followed_where_flattened
