use Rattle.std.proofs.Common.{drop, ◌++◌, ◌≡◌}
use Rattle.bk_statics.specs.Components.{variables_of}
use Rattle.bk_scope.specs.Shown.{variables_shown}
use Rattle.bk_scope.proofs.component.variables.Given as goal

abbrev pub invariant-loop-clause : goal.invariant-loop-clause
invariant-loop-clause l = variables_shown l.found.items ++ variables_of (drop l.clause-index l.clauses) ≡ variables_of l.clauses
