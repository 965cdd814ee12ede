use Rattle.std.proofs.Common.{◌≡◌, drop}
use Rattle.bk_raw.specs.Errors.Blame.{blame, earlier}
use Rattle.bk_elab_terms.specs.Shown.{told}
use Rattle.bk_statics.specs.OperationFaults.{bodies_shape}
use Rattle.bk_scope.specs.Shown.{refs}
use Rattle.bk_check_clauses.proofs.headers.bodies_shape.Given as goal

abbrev pub invariant-loop-operation : goal.invariant-loop-operation
invariant-loop-operation l = earlier (told l.fault) (blame (bodies_shape l.component.kind (refs (drop l.operation-index l.operation-items)))) ≡ blame (bodies_shape l.component.kind (refs l.operation-items))
