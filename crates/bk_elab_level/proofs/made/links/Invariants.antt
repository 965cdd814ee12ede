use Rattle.std.proofs.Common.{◌≡◌, ◌+◌, ◌++◌, map, drop}
use Rattle.bk_statics.specs.Plan.{links_from}
use Rattle.bk_scope.specs.Shown.{declared_shown}
use Rattle.bk_elab_level.proofs.made.links.Given as goal

abbrev pub invariant-loop-index : goal.invariant-loop-index
invariant-loop-index l = l.found.items ++ links_from (l.plan.variables_at + l.index) (map declared_shown (drop l.index l.plan.variables.items)) ≡ links_from l.plan.variables_at (map declared_shown l.plan.variables.items)
