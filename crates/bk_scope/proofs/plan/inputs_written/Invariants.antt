use Rattle.std.proofs.Common.{◌≡◌, ◌+◌, drop}
use Rattle.bk_statics.specs.Plan.{input_count}
use Rattle.bk_scope.specs.Shown.{refs}
use Rattle.bk_scope.proofs.plan.inputs_written.Given as goal

abbrev pub invariant-loop-operation : goal.invariant-loop-operation
invariant-loop-operation l = l.count + input_count (refs (drop l.operation-index l.component.operations.items)) ≡ input_count (refs l.component.operations.items)
