use Rattle.std.proofs.Common.{◌≡◌, ◌∙◌, ap, subst}
use Rattle.std.specs.Prelude.{IfOk}
use Rattle.bk_status.specs.States.{name_text}
use Rattle.bk_prune.proofs.states.name_of.Goals as goal

pub returns : goal.returns
returns c = subst (λ name. IfOk c.name_text.result (λ text. text.items ≡ name_text name)) (c.deref.ensures.value ∙ ap (λ z. z.name) c.script.view_is) c.name_text.ensures
