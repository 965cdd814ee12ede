use Rattle.std.proofs.Common.{◌≡◌}
use Rattle.bk_code.specs.Checks.{IsGoodEntry}
use Rattle.bk_image.specs.Spelling.{entry}
use Rattle.bk_image.specs.Faults.{part_place}
use Rattle.bk_image.proofs.FaultLists.{AreGood}
use Rattle.bk_image.proofs.numbers.entries_fault.Given as goal

abbrev pub invariant-loop-entry : goal.invariant-loop-entry
invariant-loop-entry l = record {
  here : l.place ≡ part_place entry l.at l.entries l.entry-index;
  good : AreGood (λ k op. IsGoodEntry l.image op) l.entries l.entry-index;
}
