use Rattle.std.proofs.Common.{◌∙◌, ap}
use Rattle.bk_seq.specs.Paths.{numbered_item}
use Rattle.bk_raw.specs.Trees.ScriptTree.{RawScript}
use Rattle.bk_goal.proofs.around.rule_at.Goals as goal

pub returns : goal.returns
returns c = c.numbered.ensures ∙ ap (λ rs. numbered_item rs c.args.number) (c.deref.ensures.value ∙ ap (λ (z : RawScript). z.rules) c.script.view_is)
