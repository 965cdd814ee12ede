use Rattle.bk_sim.proofs.Chain.{calls_decide}
use Rattle.bk_sim.proofs.laws.calls_decide.Goals as goal

pub returns : goal.returns
returns c = calls_decide
