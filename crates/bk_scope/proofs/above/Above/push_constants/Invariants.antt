use Rattle.std.proofs.Common.{drop, ◌++◌, ◌≡◌}
use Rattle.bk_elab_terms.specs.Visible.{visible_names}
use Rattle.bk_statics.specs.Above.{constants_from}
use Rattle.bk_scope.specs.Shown.{above_shown}
use Rattle.bk_scope.proofs.above.Above.push_constants.Given as goal

abbrev pub invariant-loop-number : goal.invariant-loop-number
invariant-loop-number l = visible_names l.names.items ++ constants_from l.number (drop l.number (above_shown l.self).homes) (drop l.number (above_shown l.self).table.variables) ≡ visible_names l.fn.names.items ++ constants_from 0 (above_shown l.self).homes (above_shown l.self).table.variables
