use Rattle.bk_raw.specs.Meaning.Outcome.{Partial, Reading}
use Rattle.bk_raw.specs.Meaning.OperatorReadings.{on_values}
use Rattle.bk_elab_terms.specs.Shown.{shown_outcome}
use Rattle.bk_elab_terms.proofs.Values.{left-none, both-unvalued}
use Rattle.bk_elab_terms.proofs.operator.expressions.Goals as goal

pub returns-in_default : goal.returns-in_default
returns-in_default c = λ (k : Partial → Partial → Reading).
    both-unvalued (shown_outcome c.args.left) (shown_outcome c.args.right) c.unvalued.result c.unvalued-2.result c.earlier-fault.result c.silent.result (on_values k (shown_outcome c.args.left) (shown_outcome c.args.right))
    (left-none k (shown_outcome c.args.left) (shown_outcome c.args.right) c.in_default.ensures) c.unvalued.ensures c.unvalued-2.ensures c.earlier-fault.ensures c.silent.ensures.outcome c.silent.ensures.fault
