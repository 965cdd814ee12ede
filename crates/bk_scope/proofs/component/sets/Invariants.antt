use Rattle.std.proofs.Common.{drop, map, ◌++◌, ◌≡◌}
use Rattle.bk_statics.specs.Components.{listed, sets_in}
use Rattle.bk_raw.specs.declared.component.ClauseWord.TheVariants.{Sets}
use Rattle.bk_scope.proofs.component.sets.Given as goal

abbrev pub invariant-loop-clause : goal.invariant-loop-clause
invariant-loop-clause l = map (λ x. x.now) l.found.items ++ listed Sets sets_in (drop l.clause-index l.clauses) ≡ listed Sets sets_in l.clauses
