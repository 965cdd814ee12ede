use Rattle.std.proofs.Common.{◌≡◌, ◌+◌, drop, map}
use Rattle.bk_statics.specs.Plan.{output_count}
use Rattle.bk_scope.specs.Shown.{headed_shown}
use Rattle.bk_scope.proofs.plan.output_count.Given as goal

abbrev pub invariant-loop-headed : goal.invariant-loop-headed
invariant-loop-headed l = l.count + output_count (map headed_shown (drop l.headed-index l.operations)) ≡ output_count (map headed_shown l.operations)
