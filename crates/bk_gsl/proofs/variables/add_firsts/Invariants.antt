use Rattle.std.proofs.Common.{◌≡◌, ◌++◌, drop}
use Rattle.bk_gsl.specs.State.{firsts}
use Rattle.bk_gsl.proofs.variables.add_firsts.Given as goal

abbrev pub invariant-loop-variable : goal.invariant-loop-variable
invariant-loop-variable g l = l.found.items ++ firsts (drop l.variable-index l.pairs) ≡ l.initial.found.items ++ firsts l.pairs
