use Rattle.std.proofs.Common.{◌≡◌}
use Rattle.bk_image.specs.Spelling.{inst}
use Rattle.bk_image.specs.Faults.{part_place}
use Rattle.bk_image.specs.Progress.{AreRight}
use Rattle.bk_image.proofs.depths.wrong_place.Given as goal

abbrev pub invariant-loop-from : goal.invariant-loop-from
invariant-loop-from l = record {
  here : l.place ≡ part_place inst l.fn.at l.image.code l.from;
  right : AreRight l.image.code l.depths.known.items l.from;
}
