use Rattle.std.proofs.Common.{◌≡◌}
use Rattle.bk_code.specs.Numbers.{int_max}
use Rattle.bk_image.specs.Spelling.{set, HasFewElements}
use Rattle.bk_image.specs.Faults.{part_place}
use Rattle.bk_image.proofs.FaultLists.{AreGood}
use Rattle.bk_image.proofs.numbers.sets_fault.Given as goal

abbrev pub invariant-loop-names : goal.invariant-loop-names
invariant-loop-names l = record {
  here : l.place ≡ part_place set l.at l.sets l.names-index;
  good : AreGood (λ k names. HasFewElements (int_max l.image) names) l.sets l.names-index;
}
