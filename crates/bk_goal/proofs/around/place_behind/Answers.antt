use Rattle.std.proofs.Common.{◌≡◌, ◌∙◌, ap, subst}
use Rattle.std.specs.Prelude.{IfOk}
use Rattle.bk_goal.specs.Shown.{place_of_rule}
use Rattle.bk_goal.proofs.around.place_behind.Goals as goal

pub returns-in-Some : goal.returns-in-Some
returns-in-Some c = subst (λ o. IfOk c.place_text.result (λ text. text.items ≡ place_of_rule c.args.found o)) c.in-Some.ensures c.place_text.ensures

pub returns-in-None : goal.returns-in-None
returns-in-None c = c.new.ensures.items ∙ ap (place_of_rule c.args.found) c.in-None.ensures
