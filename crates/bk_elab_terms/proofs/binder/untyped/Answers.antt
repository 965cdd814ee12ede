use Rattle.std.proofs.Common.{Bool, true, false, sym, ◌∙◌, ap}
use Rattle.std.specs.Prelude.{Option, not}
use Rattle.bk_raw.specs.Meaning.Binders.{untyped_faults}
use Rattle.bk_raw.specs.Errors.Blame.{blame, earlier}
use Rattle.bk_elab_terms.specs.Shown.{told}
use Rattle.bk_elab_terms.specs.Sights.{bounds_of}
use Rattle.bk_elab_terms.proofs.Bindings.{untyped-more}
use Rattle.bk_raw.proofs.Blamed.{earlier-none}
use Rattle.bk_raw.specs.Errors.Faults.{Fault}
use Rattle.bk_elab_terms.proofs.binder.untyped.Goals as goal
use Rattle.bk_elab_terms.proofs.binder.untyped.Goals.{then-is_none, else-is_none}

pub loop-local-preserved : goal.loop-local-preserved
loop-local-preserved c =
    elim c.if-is_none.branch [
      | then-is_none w ↦
          untyped-more c.args.locals.now c.loop-local.local-index c.local-item.result true (told c.loop-local.fault) (told c.if-is_none.fault) (blame (untyped_faults (bounds_of c.args.locals.now))) c.loop-local-test.true c.local-item.is
          (ap not c.is_none.ensures ∙ ap (λ (b : Bool). not (not b)) w.if-is_none.true) c.loop-local.invariant (ap told w.fault-is ∙ (w.earlier-fault.ensures ∙ ap (λ (o : Option Fault). earlier (told c.loop-local.fault) o) w.no_type.ensures))
      | else-is_none w ↦
          untyped-more c.args.locals.now c.loop-local.local-index c.local-item.result false (told c.loop-local.fault) (told c.if-is_none.fault) (blame (untyped_faults (bounds_of c.args.locals.now))) c.loop-local-test.true c.local-item.is
          (ap not c.is_none.ensures ∙ ap (λ (b : Bool). not (not b)) w.if-is_none.false) c.loop-local.invariant (ap told w.fault-is ∙ sym (earlier-none (told c.loop-local.fault)))
    ]
