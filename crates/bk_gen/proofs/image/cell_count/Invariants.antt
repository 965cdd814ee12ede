use Rattle.std.proofs.Common.{◌≡◌, ◌+◌, ◌-◌, ◌≤◌, ◌^◌, min, drop}
use Rattle.bk_b0.specs.CodeUnit.{slots_cells}
use Rattle.bk_gen.proofs.image.cell_count.Given as goal

abbrev pub invariant-loop-slot : goal.invariant-loop-slot
invariant-loop-slot l = record {
  rest : min (l.count + slots_cells (drop l.slot-index l.slots)) (2 ^ 64 - 1) ≡ min (slots_cells l.slots) (2 ^ 64 - 1);
  fits : l.count ≤ 2 ^ 64 - 1;
}
