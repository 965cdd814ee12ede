use Rattle.std.proofs.Common.{drop, ◌≡◌}
use Rattle.bk_statics.specs.Components.{stated, term_in}
use Rattle.bk_raw.specs.declared.component.ClauseWord.TheVariants.{Properties}
use Rattle.bk_scope.proofs.component.properties.Given as goal

abbrev pub invariant-loop-clause : goal.invariant-loop-clause
invariant-loop-clause l = stated Properties term_in (drop l.clause-index l.clauses) ≡ stated Properties term_in l.clauses
