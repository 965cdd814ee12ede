use Rattle.std.proofs.Common.{◌∙◌, ap, subst}
use Rattle.std.specs.Prelude.{IfOk}
use Rattle.bk_val.specs.ValueType.{ValueType, int_type, set_type}
use Rattle.bk_raw.specs.Meaning.Outcome.{whole, partial}
use Rattle.bk_raw.specs.Meaning.OperatorReadings.{times}
use Rattle.bk_elab_terms.specs.Shown.{shown_outcome, IsRead}
use Rattle.bk_elab_terms.proofs.Alikes.{at-these}
use Rattle.bk_elab_terms.proofs.operator.value_times.Goals as goal

pub returns-in-Int : goal.returns-in-Int
returns-in-Int c =
    subst (λ (t : ValueType). IfOk c.multiplied.result (λ s. IsRead s (times c.args.at.whole c.args.at.left c.args.at.right (partial (whole c.args.form t)) (shown_outcome c.args.right)))) c.in-Int.ensures
    (at-these c.multiplied.result (λ at x. times at x c.args.at.right (partial (whole c.args.form int_type)) (shown_outcome c.args.right)) c.args.at.whole c.args.at.left c.multiplied.ensures)

pub returns-in_ok-elements-in-Set : goal.returns-in_ok-elements-in-Set
returns-in_ok-elements-in-Set c =
    subst (λ (t : ValueType). IfOk c.set_times.result (λ s. IsRead s (times c.args.at.whole c.args.at.left c.args.at.right (partial (whole c.args.form t)) (shown_outcome c.args.right)))) (ap set_type c.in_ok-elements-in-Set.ensures ∙ c.in-Set.ensures)
    (at-these c.set_times.result (λ at x. times at x c.args.at.right (partial (whole c.args.form (set_type c.in_ok-elements-in-Set.elements))) (shown_outcome c.args.right)) c.args.at.whole c.args.at.left c.set_times.ensures)
