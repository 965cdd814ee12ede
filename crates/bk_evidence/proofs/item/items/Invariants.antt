use Rattle.std.proofs.Common.{◌≡◌, length, map, take}
use Rattle.bk_evidence.specs.Items.{row_of, known_of}
use Rattle.bk_evidence.proofs.item.items.Given as goal

abbrev pub invariant-loop-index : goal.invariant-loop-index
invariant-loop-index l = record {
  states : map row_of l.items.items ≡ take l.index l.rows;
  known : length l.proofs ≡ length l.rows → map known_of l.items.items ≡ take l.index l.proofs;
}
