use Rattle.std.proofs.Common.{◌≡◌, ◌+◌, ◌++◌, map, drop}
use Rattle.bk_elab_terms.specs.Visible.{visible_names}
use Rattle.bk_statics.specs.Plan.{names_from}
use Rattle.bk_scope.specs.Shown.{declared_shown}
use Rattle.bk_scope.proofs.plan.Plan.level_names.Given as goal

abbrev pub invariant-loop-index : goal.invariant-loop-index
invariant-loop-index l = visible_names l.names.items ++ names_from (l.self.variables_at + l.index) (map declared_shown (drop l.index l.self.variables.items)) ≡ names_from l.self.variables_at (map declared_shown l.self.variables.items)
