use Rattle.std.proofs.Common.{arith, subst, refl}
use Rattle.std.proofs.lemmas.Option.{slice_get_read}
use Rattle.bk_code.specs.Checks.{IsGoodEntry}
use Rattle.bk_image.specs.Spelling.{entry}
use Rattle.bk_image.specs.Faults.{IsEntryFault, IsFirst}
use Rattle.bk_image.proofs.FaultLists.{first_in, good_more, place_more, place_within}
use Rattle.bk_image.proofs.Judged.{entry_judges}
use Rattle.bk_image.proofs.numbers.entries_fault.Goals as goal

pub entry_fault-requires : goal.entry_fault-requires
entry_fault-requires c =
    let get = slice_get_read c.args.entries.now _ c.loop-entry.entry-index c.entry-item.result refl c.loop-entry-test.true c.entry-item.is in
    omega (arith, c.requires, c.loop-entry.invariant.here, place_within entry c.args.at c.args.entries.now c.loop-entry.entry-index c.entry-item.result get)

pub returns-in-Some : goal.returns-in-Some
returns-in-Some c =
    let get = slice_get_read c.args.entries.now _ c.loop-entry.entry-index c.entry-item.result refl c.loop-entry-test.true c.entry-item.is in
    first_in entry (IsEntryFault c.args.image.now) (λ k op. IsGoodEntry c.args.image.now op) (entry_judges c.args.image.now) c.args.at c.args.entries.now c.loop-entry.entry-index c.entry-item.result c.in-Some.fault
    c.loop-entry.invariant.good get (subst (λ at. IsFirst (IsEntryFault c.args.image.now 0 at c.entry-item.result) c.in-Some.fault) c.loop-entry.invariant.here c.in-Some.ensures)

pub entry_size-place-requires : goal.entry_size-place-requires
entry_size-place-requires c =
    let get = slice_get_read c.args.entries.now _ c.loop-entry.entry-index c.entry-item.result refl c.loop-entry-test.true c.entry-item.is in
    omega (arith, c.requires, c.loop-entry.invariant.here, place_within entry c.args.at c.args.entries.now c.loop-entry.entry-index c.entry-item.result get)

pub overflow_add-place : goal.overflow_add-place
overflow_add-place c =
    let get = slice_get_read c.args.entries.now _ c.loop-entry.entry-index c.entry-item.result refl c.loop-entry-test.true c.entry-item.is in
    omega (arith, c.requires, c.loop-entry.invariant.here, place_within entry c.args.at c.args.entries.now c.loop-entry.entry-index c.entry-item.result get, c.entry_size-place.ensures)

pub loop-entry-preserved : goal.loop-entry-preserved
loop-entry-preserved c =
    let get = slice_get_read c.args.entries.now _ c.loop-entry.entry-index c.entry-item.result refl c.loop-entry-test.true c.entry-item.is in
    record {
      here = omega (arith, c.loop-entry.invariant.here, place_more entry c.args.at c.args.entries.now c.loop-entry.entry-index c.entry-item.result get, c.entry_size-place.ensures);
      good = good_more (λ k op. IsGoodEntry c.args.image.now op) c.args.entries.now c.loop-entry.entry-index c.entry-item.result c.loop-entry.invariant.good get c.in_default.ensures;
    }
