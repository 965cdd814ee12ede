use Rattle.std.proofs.Common.{◌≡◌}
use Rattle.bk_image.specs.Spelling.{set}
use Rattle.bk_image.specs.Faults.{part_place}
use Rattle.bk_image.proofs.numbers.sets_end.Given as goal

abbrev pub invariant-loop-names : goal.invariant-loop-names
invariant-loop-names l = l.place ≡ part_place set l.fn.at l.sets l.names-index
