use Rattle.std.proofs.Common.{length, ◌∙◌, ap}
use Rattle.bk_prune.proofs.states.rule_count.Goals as goal

pub returns : goal.returns
returns c = c.count.ensures ∙ ap (λ rs. length rs) (c.deref.ensures.value ∙ ap (λ z. z.rules) c.script.view_is)
