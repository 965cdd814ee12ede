use Rattle.std.proofs.Common.{arith, refl, ap, length}
use Rattle.std.proofs.lemmas.Option.{slice_get_read}
use Rattle.bk_image.specs.Spelling.{text}
use Rattle.bk_image.proofs.FaultLists.{place_more, place_within}
use Rattle.bk_image.proofs.numbers.names_end.Goals as goal

pub text_size-place-requires : goal.text_size-place-requires
text_size-place-requires c =
    let get = slice_get_read c.args.names.now _ c.loop-name.name-index c.name-item.result refl c.loop-name-test.true c.name-item.is in
    omega (arith, c.requires, c.loop-name.invariant, place_within text c.args.at c.args.names.now c.loop-name.name-index c.name-item.result get, ap (λ bytes. length (text bytes)) c.as_slice.ensures)

pub overflow_add-place : goal.overflow_add-place
overflow_add-place c =
    let get = slice_get_read c.args.names.now _ c.loop-name.name-index c.name-item.result refl c.loop-name-test.true c.name-item.is in
    omega (arith, c.requires, c.loop-name.invariant, place_within text c.args.at c.args.names.now c.loop-name.name-index c.name-item.result get, c.text_size-place.ensures, ap (λ bytes. length (text bytes)) c.as_slice.ensures)

pub loop-name-preserved : goal.loop-name-preserved
loop-name-preserved c =
    let get = slice_get_read c.args.names.now _ c.loop-name.name-index c.name-item.result refl c.loop-name-test.true c.name-item.is in
    omega (arith, c.loop-name.invariant, place_more text c.args.at c.args.names.now c.loop-name.name-index c.name-item.result get, c.text_size-place.ensures, ap (λ bytes. length (text bytes)) c.as_slice.ensures)
