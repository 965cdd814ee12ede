use Rattle.std.proofs.Common.{drop, ◌++◌, ◌≡◌}
use Rattle.bk_elab_terms.specs.Visible.{visible_names}
use Rattle.bk_statics.specs.Above.{names_at_level}
use Rattle.bk_scope.specs.Shown.{above_shown}
use Rattle.bk_scope.proofs.above.Above.names_at.Given as goal

abbrev pub invariant-loop-variable : goal.invariant-loop-variable
invariant-loop-variable l = visible_names l.names.items ++ names_at_level l.level (above_shown l.self).table (drop l.variable-index l.variables) ≡ names_at_level l.level (above_shown l.self).table l.variables
