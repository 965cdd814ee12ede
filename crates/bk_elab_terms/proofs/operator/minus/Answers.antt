use Rattle.std.proofs.Common.{sym, ◌∙◌, ap, subst}
use Rattle.std.specs.Prelude.{IfOk}
use Rattle.bk_val.specs.ValueType.{int_type}
use Rattle.bk_raw.specs.Meaning.Outcome.{Outcome, whole, partial}
use Rattle.bk_raw.specs.Meaning.OperatorReadings.{on_values, minus}
use Rattle.bk_elab_terms.specs.Shown.{shown_outcome, IsRead}
use Rattle.bk_elab_terms.proofs.Alikes.{at-these}
use Rattle.bk_elab_terms.proofs.operator.minus.Goals as goal

pub returns-in-Ok-as_number : goal.returns-in-Ok-as_number
returns-in-Ok-as_number c =
    subst (λ (o : Outcome). IfOk c.difference.result (λ s. IsRead s (on_values (minus c.args.at.whole c.args.at.left c.args.at.right) o (shown_outcome c.args.right)))) (sym (c.in-Ok.ensures.0 ∙ ap partial c.in-Ok-as_number.ensures))
    (subst (λ (o : Outcome). IfOk c.difference.result (λ s. IsRead s (on_values (minus c.args.at.whole c.args.at.left c.args.at.right) (partial (whole c.in-Ok-as_number.form int_type)) o))) (sym c.in-Ok.ensures.1)
    (at-these c.difference.result (λ at x. minus at x c.args.at.right (whole c.in-Ok-as_number.form int_type) c.in-Ok.both.1) c.args.at.whole c.args.at.left c.difference.ensures))
