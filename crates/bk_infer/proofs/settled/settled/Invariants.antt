use Rattle.std.proofs.Common.{◌≡◌, ◌+◌, length, map}
use Rattle.bk_elab_terms.specs.Visible.{typing_of}
use Rattle.bk_statics.specs.Ways.{rounds}
use Rattle.bk_scope.specs.Shown.{way_shown}
use Rattle.bk_infer.proofs.settled.settled.Given as goal

abbrev pub invariant-loop : goal.invariant-loop
invariant-loop l = record {
  types : typing_of l.types.items ≡ rounds l.counter l.max l.first (map way_shown l.ways) (typing_of l.fn.known.items);
  room : length l.types.items ≡ l.first + length l.ways;
}
