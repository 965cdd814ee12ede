use Rattle.std.proofs.Common.{◌≡◌, ◌++◌, drop}
use Rattle.bk_gsl.specs.State.{firsts}
use Rattle.bk_wp.proofs.quantifiers.firsts.Given as goal

abbrev pub invariant-loop-variable : goal.invariant-loop-variable
invariant-loop-variable l = l.variables.items ++ firsts (drop l.variable-index l.pairs) ≡ firsts l.pairs
