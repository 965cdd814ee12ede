use Rattle.std.proofs.Common.{◌≡◌, ap, subst}
use Rattle.std.specs.Prelude.{IfOk}
use Rattle.bk_raw.specs.Trees.ScriptTree.{RawRule}
use Rattle.bk_goal.specs.Shown.{place_text}
use Rattle.bk_goal.proofs.around.place_text.Goals as goal

pub returns : goal.returns
returns c = subst (λ at. IfOk c.text_of_place.result (λ text. text.items ≡ place_text c.args.found.file.now c.args.found.text.now at)) (ap (λ (z : RawRule). z.at) c.rule.view_is) c.text_of_place.ensures
