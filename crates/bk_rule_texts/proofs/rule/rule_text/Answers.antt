use Rattle.std.proofs.Common.{take, ◌∙◌, ap}
use Rattle.bk_rule_texts.proofs.rule.rule_text.Goals as goal

pub returns : goal.returns
returns c = (c.saturating_sub.result, c.front.ensures ∙ ap (take c.saturating_sub.result) c.behind_byte.ensures)
