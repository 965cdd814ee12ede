use Rattle.std.proofs.Common.{refl}
use Rattle.bk_evidence.proofs.item.item_of.Goals as goal

pub returns : goal.returns
returns c = record { state = λ i. record { name = c.in_ok-name.ensures i; state = c.args.row.now.state }; known = refl }
