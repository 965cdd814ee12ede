use Rattle.std.proofs.Common.{◌≡◌, ◌+◌, drop}
use Rattle.bk_statics.specs.Plan.{other_sizes}
use Rattle.bk_scope.specs.Shown.{refs}
use Rattle.bk_scope.proofs.plan.other_sizes.Given as goal

abbrev pub invariant-loop-operation : goal.invariant-loop-operation
invariant-loop-operation l = l.count + other_sizes l.heads (refs (drop l.operation-index l.operations)) ≡ other_sizes l.heads (refs l.operations)
