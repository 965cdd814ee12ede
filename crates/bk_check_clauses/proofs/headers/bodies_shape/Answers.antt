use Rattle.std.proofs.Common.{◌∙◌, List, ap, refl, false}
use Rattle.std.specs.Borrow.{Bor}
use Rattle.bk_raw.specs.Trees.ComponentTree.{RawOperation}
use Rattle.bk_raw.specs.Errors.Blame.{blame}
use Rattle.bk_elab_terms.specs.Shown.{told}
use Rattle.bk_statics.specs.OperationFaults.{shape_faults, bodies_shape}
use Rattle.bk_scope.specs.Shown.{refs}
use Rattle.bk_scope.proofs.FaultSteps.{told-item, told-end}
use Rattle.bk_check_clauses.proofs.headers.bodies_shape.Goals as goal

pub loop-operation-preserved : goal.loop-operation-preserved
loop-operation-preserved c =
    let kind = c.args.component.now.kind in
    told-item (λ (l : List (Bor RawOperation)). bodies_shape kind (refs l)) (λ (o : Bor RawOperation). shape_faults kind false o.now.body) c.deref-operation-items.result.now c.loop-operation.operation-index c.operation-item.result (told c.loop-operation.fault) (told c.shape_fault.result) (told c.earlier-fault.result) _
    (λ _ _. refl) c.loop-operation-test.true c.operation-item.is (c.shape_fault.ensures ∙ ap (λ (o : Bor RawOperation). blame (shape_faults kind false o.now.body)) c.operation.view_is) c.earlier-fault.ensures c.loop-operation.invariant

pub returns : goal.returns
returns c =
    let kind = c.args.component.now.kind in
    told-end (λ (l : List (Bor RawOperation)). bodies_shape kind (refs l)) c.deref-operation-items.result.now c.loop-operation.operation-index (told c.loop-operation.fault) _ refl c.loop-operation-test.false c.loop-operation.invariant
    ∙ ap (λ (l : List (Bor RawOperation)). blame (bodies_shape kind (refs l))) c.deref-operation-items.ensures.value
