use Rattle.std.proofs.Common.{◌∙◌, ap}
use Rattle.std.specs.Prelude.{not}
use Rattle.std.proofs.lemmas.Result.{IfOk-weaker}
use Rattle.bk_val.specs.Sets.{has}
use Rattle.bk_val.proofs.Elements.{has-filter}
use Rattle.bk_val.proofs.sets.minus.Goals as goal

pub returns-clause-members : goal.returns-clause-members
returns-clause-members c = IfOk-weaker c.selected.result _ _ (λ t e q. ap (λ s. has s q) e ∙ has-filter (λ x. not (has c.args.b.now x)) c.args.a.now q) c.selected.ensures
