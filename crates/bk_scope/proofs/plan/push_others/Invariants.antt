use Rattle.std.proofs.Common.{◌≡◌, ◌++◌, map, drop}
use Rattle.bk_statics.specs.Plan.{other_headed}
use Rattle.bk_scope.specs.Shown.{headed_shown, refs}
use Rattle.bk_scope.proofs.plan.push_others.Given as goal

abbrev pub invariant-loop-operation : goal.invariant-loop-operation
invariant-loop-operation l = map headed_shown l.found.items ++ other_headed l.far l.heads (refs (drop l.operation-index l.operations)) ≡ map headed_shown l.fn.found.items ++ other_headed l.far l.heads (refs l.operations)
