use Rattle.std.proofs.Common.{arith, refl}
use Rattle.std.proofs.lemmas.Option.{slice_get_read}
use Rattle.bk_image.specs.Spelling.{entry}
use Rattle.bk_image.proofs.FaultLists.{place_more, place_within}
use Rattle.bk_image.proofs.numbers.entries_end.Goals as goal

pub entry_size-place-requires : goal.entry_size-place-requires
entry_size-place-requires c =
    let get = slice_get_read c.args.entries.now _ c.loop-entry.entry-index c.entry-item.result refl c.loop-entry-test.true c.entry-item.is in
    omega (arith, c.requires, c.loop-entry.invariant, place_within entry c.args.at c.args.entries.now c.loop-entry.entry-index c.entry-item.result get)

pub overflow_add-place : goal.overflow_add-place
overflow_add-place c =
    let get = slice_get_read c.args.entries.now _ c.loop-entry.entry-index c.entry-item.result refl c.loop-entry-test.true c.entry-item.is in
    omega (arith, c.requires, c.loop-entry.invariant, place_within entry c.args.at c.args.entries.now c.loop-entry.entry-index c.entry-item.result get, c.entry_size-place.ensures)

pub loop-entry-preserved : goal.loop-entry-preserved
loop-entry-preserved c =
    let get = slice_get_read c.args.entries.now _ c.loop-entry.entry-index c.entry-item.result refl c.loop-entry-test.true c.entry-item.is in
    omega (arith, c.loop-entry.invariant, place_more entry c.args.at c.args.entries.now c.loop-entry.entry-index c.entry-item.result get, c.entry_size-place.ensures)
