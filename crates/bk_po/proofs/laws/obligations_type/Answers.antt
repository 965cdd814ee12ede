use Rattle.bk_po.proofs.TypedSequents.{obligations_type}
use Rattle.bk_po.proofs.laws.obligations_type.Goals as goal

pub returns : goal.returns
returns c = obligations_type
