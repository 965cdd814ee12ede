use Rattle.std.proofs.Common.{◌≡◌, sym, subst}
use Rattle.std.specs.Prelude.{IfOk}
use Rattle.bk_goal.specs.Shown.{title}
use Rattle.bk_goal.proofs.around.title_text.Goals as goal

pub returns-then-done-eq0 : goal.returns-then-done-eq0
returns-then-done-eq0 c = subst (λ k. IfOk c.title_before.result (λ text. text.items ≡ title c.args.name.now k c.args.rules)) (sym c.if-done-eq0.true) c.title_before.ensures
