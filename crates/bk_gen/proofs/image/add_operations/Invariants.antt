use Rattle.std.proofs.Common.{◌≡◌, ◌≤◌, ◌+◌, ◌++◌, drop, length}
use Rattle.bk_limits.specs.declared.TheConstants.{MOST_INSTRUCTIONS}
use Rattle.bk_b0.specs.CodeUnit.{unit_places}
use Rattle.bk_b0.specs.Places.{placed_entries, placed_bodies}
use Rattle.bk_gen.specs.Sizes.{blocks_size}
use Rattle.bk_gen.proofs.image.add_operations.Given as goal

abbrev pub invariant-loop-number : goal.invariant-loop-number
invariant-loop-number l = record {
  code : l.code.items ++ placed_bodies (unit_places l.unit) (drop l.number l.bodies) ≡ l.initial.code.items ++ placed_bodies (unit_places l.unit) l.bodies;
  entries : l.ops.items ++ placed_entries (unit_places l.unit) (length l.code.items) (drop l.number l.heads) (drop l.number l.bodies) ≡ placed_entries (unit_places l.unit) (length l.initial.code.items) l.heads l.bodies;
  short : length l.code.items + blocks_size (unit_places l.unit) (drop l.number l.bodies) ≤ MOST_INSTRUCTIONS;
}
