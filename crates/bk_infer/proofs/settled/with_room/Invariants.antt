use Rattle.std.proofs.Common.{◌≡◌, ◌+◌, length}
use Rattle.bk_elab_terms.specs.Visible.{typing_of}
use Rattle.bk_infer.proofs.settled.with_room.Given as goal

abbrev pub invariant-loop : goal.invariant-loop
invariant-loop l = record {
  types : typing_of l.types.items ≡ typing_of l.fn.types.items;
  room : length l.types.items ≡ length l.fn.types.items + l.index;
}
