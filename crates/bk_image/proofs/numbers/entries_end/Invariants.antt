use Rattle.std.proofs.Common.{◌≡◌}
use Rattle.bk_image.specs.Spelling.{entry}
use Rattle.bk_image.specs.Faults.{part_place}
use Rattle.bk_image.proofs.numbers.entries_end.Given as goal

abbrev pub invariant-loop-entry : goal.invariant-loop-entry
invariant-loop-entry l = l.place ≡ part_place entry l.fn.at l.entries l.entry-index
