use Rattle.std.proofs.Common.{◌≡◌, ◌++◌, drop}
use Rattle.bk_gsl.specs.Reads.{outside}
use Rattle.bk_gsl.proofs.variables.add_outside.Given as goal

abbrev pub invariant-loop-variable : goal.invariant-loop-variable
invariant-loop-variable l = l.found.items ++ outside l.bound (drop l.variable-index l.variables) ≡ l.initial.found.items ++ outside l.bound l.variables
