use Rattle.std.proofs.Common.{◌≡◌, ◌++◌, map, drop}
use Rattle.bk_elab_terms.specs.Visible.{visible_names}
use Rattle.bk_statics.specs.Plan.{carried}
use Rattle.bk_scope.specs.Shown.{above_shown, declared_shown}
use Rattle.bk_scope.proofs.plan.carried.Given as goal

abbrev pub invariant-loop-name : goal.invariant-loop-name
invariant-loop-name l = map declared_shown l.found.items ++ carried (above_shown l.above) (visible_names (drop l.name-index l.upper)) ≡ carried (above_shown l.above) (visible_names l.upper)
