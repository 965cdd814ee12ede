use Rattle.std.proofs.Common.{drop, map, ◌++◌, ◌≡◌}
use Rattle.bk_statics.specs.Components.{all_declared_by}
use Rattle.bk_scope.proofs.component.declared.Given as goal

abbrev pub invariant-loop-clause : goal.invariant-loop-clause
invariant-loop-clause l = map (λ x. x.now) l.found.items ++ all_declared_by (drop l.clause-index l.clauses) ≡ all_declared_by l.clauses
