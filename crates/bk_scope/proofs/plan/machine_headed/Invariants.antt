use Rattle.std.proofs.Common.{◌≡◌, ◌++◌, map, drop}
use Rattle.bk_statics.specs.Plan.{machine_headed}
use Rattle.bk_scope.specs.Shown.{headed_shown, refs}
use Rattle.bk_scope.proofs.plan.machine_headed.Given as goal

abbrev pub invariant-loop-operation : goal.invariant-loop-operation
invariant-loop-operation l = map headed_shown l.found.items ++ machine_headed l.next (refs (drop l.operation-index l.operations)) ≡ machine_headed l.first (refs l.operations)
