use Rattle.std.proofs.Common.{◌≡◌, ◌++◌, map, drop}
use Rattle.bk_statics.specs.Plan.{lower_headed}
use Rattle.bk_scope.specs.Shown.{above_shown, headed_shown, refs}
use Rattle.bk_scope.proofs.plan.lower_headed.Given as goal

abbrev pub invariant-loop-index : goal.invariant-loop-index
invariant-loop-index l = map headed_shown l.found.items ++ lower_headed l.far (above_shown l.above) l.index (drop l.index (above_shown l.above).heads) (refs l.operations) ≡ lower_headed l.far (above_shown l.above) 0 (above_shown l.above).heads (refs l.operations)
