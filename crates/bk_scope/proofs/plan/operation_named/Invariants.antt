use Rattle.std.proofs.Common.{◌≡◌, drop}
use Rattle.bk_statics.specs.Plan.{operation_named}
use Rattle.bk_scope.specs.Shown.{refs}
use Rattle.bk_scope.proofs.plan.operation_named.Given as goal

abbrev pub invariant-loop-operation : goal.invariant-loop-operation
invariant-loop-operation l = operation_named l.text (refs (drop l.operation-index l.operations)) ≡ operation_named l.text (refs l.operations)
