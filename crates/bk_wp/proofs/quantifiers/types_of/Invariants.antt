use Rattle.std.proofs.Common.{◌≡◌, ◌++◌, drop, map}
use Rattle.bk_gsl.specs.State.{declared_type}
use Rattle.bk_wp.proofs.quantifiers.types_of.Given as goal

abbrev pub invariant-loop-variable : goal.invariant-loop-variable
invariant-loop-variable l = l.found.items ++ map (declared_type l.types) (drop l.variable-index l.variables) ≡ map (declared_type l.types) l.variables
