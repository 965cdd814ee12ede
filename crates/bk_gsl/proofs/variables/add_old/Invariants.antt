use Rattle.std.proofs.Common.{◌≡◌, ◌++◌, drop, map}
use Rattle.bk_gsl.specs.Run.{old_of}
use Rattle.bk_gsl.proofs.variables.add_old.Given as goal

abbrev pub invariant-loop-variable : goal.invariant-loop-variable
invariant-loop-variable l = l.found.items ++ map (old_of l.pairs) (drop l.variable-index l.variables) ≡ l.initial.found.items ++ map (old_of l.pairs) l.variables
