use Rattle.std.proofs.Common.{drop, ◌++◌, ◌≡◌}
use Rattle.bk_statics.specs.Components.{as_variables}
use Rattle.bk_scope.specs.Shown.{variables_shown}
use Rattle.bk_scope.proofs.component.push_variables.Given as goal

abbrev pub invariant-loop-name : goal.invariant-loop-name
invariant-loop-name l = variables_shown l.found.items ++ as_variables l.is_concrete (drop l.name-index l.names) ≡ variables_shown l.fn.found.items ++ as_variables l.is_concrete l.names
