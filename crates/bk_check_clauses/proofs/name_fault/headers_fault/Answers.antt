use Rattle.std.proofs.Common.{refl, List, [], ◌++◌}
use Rattle.std.specs.Borrow.{Bor}
use Rattle.bk_raw.specs.Meaning.Binders.{twice}
use Rattle.bk_elab_terms.specs.Shown.{told}
use Rattle.bk_raw.specs.Trees.ComponentTree.{RawOperation}
use Rattle.bk_statics.specs.NameFaults.{header_twice}
use Rattle.bk_scope.specs.Shown.{refs}
use Rattle.bk_scope.proofs.FaultSteps.{told-item}
use Rattle.bk_check_clauses.proofs.name_fault.headers_fault.Goals as goal

pub loop-operation-preserved : goal.loop-operation-preserved
loop-operation-preserved c =
    told-item (λ (l : List (Bor RawOperation)). header_twice (refs l)) (λ (o : Bor RawOperation). twice [] (o.now.outputs ++ o.now.inputs)) c.args.operations.now c.loop-operation.operation-index c.operation-item.result (told c.loop-operation.fault) (told c.header_fault.result) (told c.earlier-fault.result) _
    (λ _ _. refl) c.loop-operation-test.true c.operation-item.is c.header_fault.ensures c.earlier-fault.ensures c.loop-operation.invariant
