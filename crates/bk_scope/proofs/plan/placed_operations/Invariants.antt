use Rattle.std.proofs.Common.{◌≡◌, ◌++◌, length, map, drop}
use Rattle.bk_statics.specs.Plan.{placed}
use Rattle.bk_scope.specs.Shown.{headed_shown, placed_shown}
use Rattle.bk_scope.proofs.plan.placed_operations.Given as goal

abbrev pub invariant-loop-one : goal.invariant-loop-one
invariant-loop-one l = map placed_shown l.found.items ++ placed l.outputs l.binders (map headed_shown (drop (length l.yielded) l.fn.headed.items)) ≡ placed l.outputs_at l.binders_at (map headed_shown l.fn.headed.items)
