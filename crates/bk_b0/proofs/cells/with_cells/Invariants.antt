use Rattle.std.proofs.Common.{◌≡◌, ◌++◌, drop, map}
use Rattle.bk_b0.specs.CodeUnit.{slot_with}
use Rattle.bk_b0.proofs.cells.with_cells.Given as goal

abbrev pub invariant-loop-variable : goal.invariant-loop-variable
invariant-loop-variable l = l.slots.items ++ map (slot_with l.table l.arrays) (drop l.variable-index l.variables) ≡ map (slot_with l.table l.arrays) l.variables
