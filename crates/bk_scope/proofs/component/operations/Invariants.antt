use Rattle.std.proofs.Common.{drop, map, ◌++◌, ◌≡◌}
use Rattle.bk_statics.specs.Components.{listed, operations_in}
use Rattle.bk_raw.specs.declared.component.ClauseWord.TheVariants.{Operations}
use Rattle.bk_scope.proofs.component.operations.Given as goal

abbrev pub invariant-loop-clause : goal.invariant-loop-clause
invariant-loop-clause l = map (λ x. x.now) l.found.items ++ listed Operations operations_in (drop l.clause-index l.clauses) ≡ listed Operations operations_in l.clauses
