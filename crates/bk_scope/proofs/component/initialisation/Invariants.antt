use Rattle.std.proofs.Common.{drop, ◌≡◌}
use Rattle.bk_statics.specs.Components.{stated, substitution_in}
use Rattle.bk_raw.specs.declared.component.ClauseWord.TheVariants.{Initialisation}
use Rattle.bk_scope.proofs.component.initialisation.Given as goal

abbrev pub invariant-loop-clause : goal.invariant-loop-clause
invariant-loop-clause l = stated Initialisation substitution_in (drop l.clause-index l.clauses) ≡ stated Initialisation substitution_in l.clauses
