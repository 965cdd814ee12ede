use Rattle.std.proofs.Common.{◌≡◌}
use Rattle.bk_image.specs.Spelling.{inst}
use Rattle.bk_image.specs.Faults.{part_place}
use Rattle.bk_image.specs.Soundness.{AreSound}
use Rattle.bk_image.proofs.numbers.code_fault.Given as goal

abbrev pub invariant-loop-from : goal.invariant-loop-from
invariant-loop-from l = record {
  here : l.place ≡ part_place inst l.fn.at l.image.code l.from;
  sound : AreSound l.image l.image.code l.from;
}
