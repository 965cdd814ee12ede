use Rattle.std.proofs.Common.{◌≡◌, ◌++◌, drop}
use Rattle.bk_gsl.specs.Reads.{variables_of_terms}
use Rattle.bk_gsl.proofs.variables.add_variables_of_terms.Given as goal

abbrev pub invariant-loop-term : goal.invariant-loop-term
invariant-loop-term l = l.found.items ++ variables_of_terms (drop l.term-index l.terms) ≡ l.initial.found.items ++ variables_of_terms l.terms
