use Rattle.bk_po.proofs.Carrying.{valid_obligations_carry}
use Rattle.bk_po.proofs.laws.obligations_carry.Goals as goal

pub returns : goal.returns
returns c = valid_obligations_carry
