use Rattle.std.proofs.Common.{drop, map, ◌++◌, ◌≡◌}
use Rattle.bk_statics.specs.Components.{listed, terms_in}
use Rattle.bk_raw.specs.declared.component.ClauseWord.TheVariants.{Assertions}
use Rattle.bk_scope.proofs.component.assertions.Given as goal

abbrev pub invariant-loop-clause : goal.invariant-loop-clause
invariant-loop-clause l = map (λ x. x.now) l.found.items ++ listed Assertions terms_in (drop l.clause-index l.clauses) ≡ listed Assertions terms_in l.clauses
