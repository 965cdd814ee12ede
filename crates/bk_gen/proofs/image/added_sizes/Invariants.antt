use Rattle.std.proofs.Common.{◌≡◌, ◌+◌, ◌-◌, ◌≤◌, ◌^◌, min, drop}
use Rattle.bk_b0.specs.CodeUnit.{unit_places}
use Rattle.bk_gen.specs.Sizes.{blocks_size}
use Rattle.bk_gen.proofs.image.added_sizes.Given as goal

abbrev pub invariant-loop-body : goal.invariant-loop-body
invariant-loop-body l = record {
  rest : min (l.total + blocks_size (unit_places l.unit) (drop l.body-index l.bodies)) (2 ^ 64 - 1) ≡ min (l.fn.size + blocks_size (unit_places l.unit) l.bodies) (2 ^ 64 - 1);
  fits : l.total ≤ 2 ^ 64 - 1;
}
