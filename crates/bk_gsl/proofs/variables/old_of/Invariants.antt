use Rattle.std.proofs.Common.{◌≡◌, drop}
use Rattle.bk_gsl.specs.Run.{old_of}
use Rattle.bk_gsl.proofs.variables.old_of.Given as goal

abbrev pub invariant-loop-variable : goal.invariant-loop-variable
invariant-loop-variable l = old_of (drop l.variable-index l.pairs) l.number ≡ old_of l.pairs l.number
