use Rattle.bk_sim.proofs.Examples.{exchange_is_followed}
use Rattle.bk_sim.proofs.laws.exchange.Goals as goal

pub returns : goal.returns
returns c = exchange_is_followed
