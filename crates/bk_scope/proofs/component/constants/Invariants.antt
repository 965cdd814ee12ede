use Rattle.std.proofs.Common.{drop, map, ◌++◌, ◌≡◌}
use Rattle.bk_statics.specs.Components.{listed, names_in}
use Rattle.bk_raw.specs.declared.component.ClauseWord.TheVariants.{Constants}
use Rattle.bk_scope.proofs.component.constants.Given as goal

abbrev pub invariant-loop-clause : goal.invariant-loop-clause
invariant-loop-clause l = map (λ x. x.now) l.found.items ++ listed Constants names_in (drop l.clause-index l.clauses) ≡ listed Constants names_in l.clauses
