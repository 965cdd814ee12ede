use Rattle.std.proofs.Common.{arith, refl, ap, length}
use Rattle.std.specs.List.{flat_map}
use Rattle.std.proofs.lemmas.Option.{slice_get_read}
use Rattle.bk_image.specs.Spelling.{set, text}
use Rattle.bk_image.proofs.FaultLists.{place_more, place_within}
use Rattle.bk_image.proofs.Sizes.{set_size}
use Rattle.bk_image.proofs.numbers.sets_end.Goals as goal

pub overflow_add-place : goal.overflow_add-place
overflow_add-place c =
    let get = slice_get_read c.args.sets.now _ c.loop-names.names-index c.names-item.result refl c.loop-names-test.true c.names-item.is in
    omega (arith, c.requires, c.loop-names.invariant, place_within set c.args.at c.args.sets.now c.loop-names.names-index c.names-item.result get, set_size c.names-item.result)

pub names_end-place-requires : goal.names_end-place-requires
names_end-place-requires c =
    let get = slice_get_read c.args.sets.now _ c.loop-names.names-index c.names-item.result refl c.loop-names-test.true c.names-item.is in
    omega (
      arith,
      c.requires,
      c.loop-names.invariant,
      place_within set c.args.at c.args.sets.now c.loop-names.names-index c.names-item.result get,
      set_size c.names-item.result,
      ap (λ names. length (flat_map text names)) c.as_slice.ensures,
    )

pub loop-names-preserved : goal.loop-names-preserved
loop-names-preserved c =
    let get = slice_get_read c.args.sets.now _ c.loop-names.names-index c.names-item.result refl c.loop-names-test.true c.names-item.is in
    omega (
      arith,
      c.loop-names.invariant,
      place_more set c.args.at c.args.sets.now c.loop-names.names-index c.names-item.result get,
      set_size c.names-item.result,
      ap (λ names. length (flat_map text names)) c.as_slice.ensures,
      c.names_end-place.ensures,
    )
