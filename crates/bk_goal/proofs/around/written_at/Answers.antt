use Rattle.std.proofs.Common.{take, drop, ◌∙◌, ap}
use Rattle.bk_raw.specs.Trees.ScriptTree.{RawRule}
use Rattle.bk_goal.proofs.around.written_at.Goals as goal

pub returns : goal.returns
returns c =
    let n = c.rule_text.ensures.0 in
    (n, c.rule_text.ensures.1 ∙ ap (λ at. take n (drop at c.args.found.text.now)) (ap (λ (z : RawRule). z.at) c.rule.view_is))
