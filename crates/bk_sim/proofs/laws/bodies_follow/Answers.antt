use Rattle.bk_sim.proofs.Followed.{operations_follow, openings_follow}
use Rattle.bk_sim.proofs.laws.bodies_follow.Goals as goal

pub returns : goal.returns
returns c = record { operations = operations_follow; openings = openings_follow }
