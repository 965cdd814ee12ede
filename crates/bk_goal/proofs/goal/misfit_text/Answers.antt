use Rattle.std.proofs.Common.{sym, ◌∙◌, subst}
use Rattle.std.specs.Prelude.{IfOk}
use Rattle.bk_goal.specs.Shown.{TellsMisfit}
use Rattle.bk_goal.proofs.goal.misfit_text.Goals as goal

pub returns-then-not-is_asked : goal.returns-then-not-is_asked
returns-then-not-is_asked c = subst (λ b. IfOk c.nothing.result (λ text. TellsMisfit b text.items)) (sym c.if-not-is_asked.true ∙ c.is_asked.ensures) c.nothing.ensures

pub returns : goal.returns
returns c = subst (λ b. IfOk c.reason_line.result (λ text. TellsMisfit b text.items)) (sym c.if-not-is_asked.false ∙ c.is_asked.ensures) c.reason_line.ensures
