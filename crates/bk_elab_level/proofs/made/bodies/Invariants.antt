use Rattle.std.proofs.Common.{◌≡◌, ◌++◌, map, drop}
use Rattle.bk_elab_terms.specs.Visible.{typing_of}
use Rattle.bk_statics.specs.LevelOf.{bodies_made}
use Rattle.bk_scope.specs.Shown.{placed_shown, plan_shown}
use Rattle.bk_elab_level.proofs.made.bodies.Given as goal

abbrev pub invariant-loop-placed : goal.invariant-loop-placed
invariant-loop-placed l = l.found.items ++ bodies_made l.typing.max (typing_of l.typing.types.now) (plan_shown l.plan) (map placed_shown (drop l.placed-index l.plan.operations.items)) ≡ bodies_made l.typing.max (typing_of l.typing.types.now) (plan_shown l.plan) (map placed_shown l.plan.operations.items)
