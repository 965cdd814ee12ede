use Rattle.std.proofs.Common.{◌∙◌, ap, refl}
use Rattle.bk_raw.specs.Errors.Blame.{blame}
use Rattle.bk_elab_terms.specs.Shown.{told}
use Rattle.bk_raw.specs.Meaning.Binders.{is_text}
use Rattle.bk_statics.specs.Binders.{texts}
use Rattle.bk_statics.specs.Components.{operation_names}
use Rattle.bk_statics.specs.OperationFaults.{unless, missing_faults}
use Rattle.bk_scope.specs.Shown.{refs}
use Rattle.bk_scope.proofs.FaultSteps.{told-next}
use Rattle.bk_check_clauses.proofs.headers.missing_fault.Goals as goal

pub loop-head-preserved : goal.loop-head-preserved
loop-head-preserved c =
    let comp = c.args.component.now in
    let names = texts (operation_names (refs comp.operations.items)) in
    let heads = c.heads-heads.result.now in
    told-next (missing_faults comp.at names) (unless (is_text names c.head-item.result.name) comp.at) heads c.loop-head.head-index c.head-item.result (told c.loop-head.fault) (told c.unless.result) (told c.earlier-fault.result) (blame (missing_faults comp.at names heads)) refl c.loop-head-test.true c.head-item.is
    (c.unless.ensures ∙ ap (λ b. blame (unless b comp.at)) (c.is_named-there.ensures ∙ (λ i. is_text (texts (operation_names (refs (c.deref.ensures.value i)))) (c.as_bytes.ensures.value i)) ∙ ap (λ h. is_text names h.name) c.head.view_is))
    c.earlier-fault.ensures c.loop-head.invariant
