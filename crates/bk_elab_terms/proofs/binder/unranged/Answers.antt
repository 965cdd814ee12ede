use Rattle.std.proofs.Common.{Bool, true, false, sym, ◌∙◌, ap}
use Rattle.std.specs.Prelude.{Option, not}
use Rattle.bk_raw.specs.Meaning.Binders.{as_bound, untyped_faults}
use Rattle.bk_raw.specs.Errors.Blame.{blame, earlier}
use Rattle.bk_elab_terms.specs.Shown.{told}
use Rattle.bk_elab_terms.specs.Sights.{ranges_as}
use Rattle.bk_elab_terms.proofs.Bindings.{unranged-next}
use Rattle.bk_raw.proofs.Blamed.{earlier-none}
use Rattle.bk_raw.specs.Errors.Faults.{Fault}
use Rattle.bk_elab_terms.proofs.binder.unranged.Goals as goal
use Rattle.bk_elab_terms.proofs.binder.unranged.Goals.{then-is_none, else-is_none}

pub loop-name-preserved : goal.loop-name-preserved
loop-name-preserved c =
    elim c.if-is_none.branch [
      | then-is_none w ↦
          unranged-next c.args.names.now c.loop-name.name-index c.name-item.result true (told c.loop-name.fault) (told c.if-is_none.fault) (blame (untyped_faults (as_bound (ranges_as c.args.names.now)))) c.loop-name-test.true c.name-item.is
          (ap not c.is_none.ensures ∙ ap (λ (b : Bool). not (not b)) w.if-is_none.true) c.loop-name.invariant (ap told w.fault-is ∙ (w.earlier-fault.ensures ∙ ap (λ (o : Option Fault). earlier (told c.loop-name.fault) o) w.no_type.ensures))
      | else-is_none w ↦
          unranged-next c.args.names.now c.loop-name.name-index c.name-item.result false (told c.loop-name.fault) (told c.if-is_none.fault) (blame (untyped_faults (as_bound (ranges_as c.args.names.now)))) c.loop-name-test.true c.name-item.is
          (ap not c.is_none.ensures ∙ ap (λ (b : Bool). not (not b)) w.if-is_none.false) c.loop-name.invariant (ap told w.fault-is ∙ sym (earlier-none (told c.loop-name.fault)))
    ]
