use Rattle.std.proofs.Common.{◌∙◌, ap}
use Rattle.std.proofs.lemmas.Result.{IfOk-weaker}
use Rattle.bk_val.specs.Sets.{has}
use Rattle.bk_val.proofs.Elements.{has-filter}
use Rattle.bk_val.proofs.sets.inter.Goals as goal

pub returns-clause-members : goal.returns-clause-members
returns-clause-members c = IfOk-weaker c.selected.result _ _ (λ t e q. ap (λ s. has s q) e ∙ has-filter (has c.args.b.now) c.args.a.now q) c.selected.ensures
