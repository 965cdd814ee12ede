use Rattle.std.proofs.Common.{◌≡◌, ◌++◌, drop, map}
use Rattle.bk_b0.specs.CodeUnit.{unit_places}
use Rattle.bk_b0.specs.Places.{placed_parameter}
use Rattle.bk_gen.proofs.image.parameters.Given as goal

abbrev pub invariant-loop-variable : goal.invariant-loop-variable
invariant-loop-variable l = l.list.items ++ map (placed_parameter (unit_places l.unit)) (drop l.variable-index l.variables) ≡ map (placed_parameter (unit_places l.unit)) l.variables
