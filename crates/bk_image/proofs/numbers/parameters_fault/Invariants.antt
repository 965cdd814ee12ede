use Rattle.std.proofs.Common.{◌≡◌, ◌+◌}
use Rattle.bk_code.specs.Checks.{IsGoodParameter}
use Rattle.bk_image.specs.Spelling.{parameter}
use Rattle.bk_image.specs.Faults.{part_place}
use Rattle.bk_image.proofs.FaultLists.{AreGood}
use Rattle.bk_image.proofs.numbers.parameters_fault.Given as goal

abbrev pub invariant-loop-parameter : goal.invariant-loop-parameter
invariant-loop-parameter l = record {
  here : l.place ≡ part_place parameter (l.at + 2) l.parameters l.parameter-index;
  good : AreGood (λ k p. IsGoodParameter l.image p) l.parameters l.parameter-index;
}
