use Rattle.std.proofs.Common.{◌≡◌, ◌≤◌, ◌+◌, drop}
use Rattle.bk_limits.specs.declared.TheConstants.{MOST_CELLS}
use Rattle.bk_b0.specs.CodeUnit.{first_of, slots_cells}
use Rattle.bk_gen.proofs.leaf.first_cell.Given as goal

abbrev pub invariant-loop-slot : goal.invariant-loop-slot
invariant-loop-slot l = record {
  found : l.first + first_of l.variable (drop l.slot-index l.slots) ≡ first_of l.variable l.slots;
  few : l.first + slots_cells (drop l.slot-index l.slots) ≤ MOST_CELLS;
}
