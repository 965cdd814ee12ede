use Rattle.std.proofs.Common.{◌≡◌, ◌++◌, drop}
use Rattle.bk_statics.specs.Plan.{machine_heads}
use Rattle.bk_scope.specs.Shown.{refs}
use Rattle.bk_elab_level.proofs.made.machine_heads.Given as goal

abbrev pub invariant-loop-operation : goal.invariant-loop-operation
invariant-loop-operation l = l.found.items ++ machine_heads l.next (refs (drop l.operation-index l.operations)) ≡ machine_heads l.first (refs l.operations)
