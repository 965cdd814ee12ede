use Rattle.std.proofs.Common.{drop, ◌≡◌}
use Rattle.bk_statics.specs.Components.{stated, term_in}
use Rattle.bk_raw.specs.declared.component.ClauseWord.TheVariants.{Invariant}
use Rattle.bk_scope.proofs.component.invariant.Given as goal

abbrev pub invariant-loop-clause : goal.invariant-loop-clause
invariant-loop-clause l = stated Invariant term_in (drop l.clause-index l.clauses) ≡ stated Invariant term_in l.clauses
