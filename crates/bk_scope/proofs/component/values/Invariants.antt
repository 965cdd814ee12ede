use Rattle.std.proofs.Common.{drop, map, ◌++◌, ◌≡◌}
use Rattle.bk_statics.specs.Components.{listed, values_in}
use Rattle.bk_raw.specs.declared.component.ClauseWord.TheVariants.{Values}
use Rattle.bk_scope.proofs.component.values.Given as goal

abbrev pub invariant-loop-clause : goal.invariant-loop-clause
invariant-loop-clause l = map (λ x. x.now) l.found.items ++ listed Values values_in (drop l.clause-index l.clauses) ≡ listed Values values_in l.clauses
