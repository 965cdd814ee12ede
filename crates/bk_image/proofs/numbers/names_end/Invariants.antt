use Rattle.std.proofs.Common.{◌≡◌}
use Rattle.bk_image.specs.Spelling.{text}
use Rattle.bk_image.specs.Faults.{part_place}
use Rattle.bk_image.proofs.numbers.names_end.Given as goal

abbrev pub invariant-loop-name : goal.invariant-loop-name
invariant-loop-name l = l.place ≡ part_place text l.fn.at l.names l.name-index
