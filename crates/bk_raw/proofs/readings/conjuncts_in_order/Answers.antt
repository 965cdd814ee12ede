use Rattle.bk_raw.proofs.InOrder.{in-order}
use Rattle.bk_raw.proofs.readings.conjuncts_in_order.Goals as goal

pub returns : goal.returns
returns c = in-order
