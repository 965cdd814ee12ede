use Rattle.std.proofs.Common.{◌≡◌, ◌++◌, map, drop}
use Rattle.bk_statics.specs.LevelOf.{all_output_ways}
use Rattle.bk_scope.specs.Shown.{placed_shown, plan_shown, way_shown}
use Rattle.bk_infer.proofs.all_ways.push_outputs.Given as goal

abbrev pub invariant-loop-placed : goal.invariant-loop-placed
invariant-loop-placed l = map way_shown l.found.items ++ all_output_ways l.kind (plan_shown l.plan) (map placed_shown (drop l.placed-index l.plan.operations.items)) ≡ map way_shown l.fn.found.items ++ all_output_ways l.kind (plan_shown l.plan) (map placed_shown l.plan.operations.items)
