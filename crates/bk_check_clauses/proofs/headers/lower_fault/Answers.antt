use Rattle.std.proofs.Common.{◌∙◌, List, Bool, ap, refl, sym}
use Rattle.std.specs.Prelude.{◌&&◌}
use Rattle.std.specs.Borrow.{Bor}
use Rattle.bk_raw.specs.Trees.ComponentTree.{RawOperation}
use Rattle.bk_raw.specs.Errors.Blame.{blame}
use Rattle.bk_elab_terms.specs.Shown.{told}
use Rattle.bk_statics.specs.Binders.{texts}
use Rattle.bk_statics.specs.Components.{first_token, operation_names}
use Rattle.bk_statics.specs.OperationFaults.{unless, heads_as, header_faults, missing_faults, lower_faults}
use Rattle.bk_statics.specs.Plan.{is_headed}
use Rattle.bk_scope.specs.Shown.{above_shown, component_shown, refs}
use Rattle.bk_scope.proofs.FaultSteps.{told-item, told-end, told-both}
use Rattle.bk_check_clauses.proofs.headers.lower_fault.Goals as goal

pub loop-operation-preserved : goal.loop-operation-preserved
loop-operation-preserved c =
    let dev = above_shown c.args.above in
    told-item (λ (l : List (Bor RawOperation)). header_faults dev (refs l)) (λ (o : Bor RawOperation). unless (is_headed dev.heads o.now.name.text && heads_as dev 0 dev.heads o.now) (first_token o.now)) c.deref-operation-items.result.now c.loop-operation.operation-index c.operation-item.result
    (told c.loop-operation.fault) (told c.in_ok-header_fault.field-0) (told c.earlier-fault.result) _ (λ _ _. refl) c.loop-operation-test.true c.operation-item.is c.in_ok-header_fault.ensures c.earlier-fault.ensures c.loop-operation.invariant

pub returns : goal.returns
returns c =
    let dev = above_shown c.args.above in
    let comp = c.args.component.now in
    told-both (header_faults dev (refs comp.operations.items)) (missing_faults comp.at (texts (operation_names (refs comp.operations.items))) dev.heads) (told c.loop-operation.fault) (told c.missing_fault.result) (told c.earlier.result)
    (told-end (λ (l : List (Bor RawOperation)). header_faults dev (refs l)) c.deref-operation-items.result.now c.loop-operation.operation-index (told c.loop-operation.fault) _ refl c.loop-operation-test.false c.loop-operation.invariant
    ∙ ap (λ (l : List (Bor RawOperation)). blame (header_faults dev (refs l))) c.deref-operation-items.ensures.value) c.missing_fault.ensures c.earlier.ensures
    ∙ ap (λ (b : Bool). blame (lower_faults b dev (component_shown comp))) (sym (sym c.is_machine.ensures ∙ c.if-is_machine.false))
