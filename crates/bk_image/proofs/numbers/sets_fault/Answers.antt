use Rattle.std.proofs.Common.{arith, refl, sym, subst, ap, length}
use Rattle.std.proofs.lemmas.Int.{ints}
use Rattle.std.specs.List.{flat_map}
use Rattle.std.proofs.lemmas.Option.{slice_get_read}
use Rattle.bk_code.specs.Numbers.{int_max}
use Rattle.bk_image.specs.declared.fault.LoadFault.{LoadFault}
use Rattle.bk_image.specs.declared.fault.LoadFault.TheVariants.{BadSlot}
use Rattle.bk_image.specs.Spelling.{set, text, HasFewElements}
use Rattle.bk_image.specs.Faults.{IsSetFault, IsFirst, part_place}
use Rattle.bk_image.proofs.FaultLists.{first_in, good_more, place_more, place_within}
use Rattle.bk_image.proofs.Judged.{set_judges, first_few}
use Rattle.bk_image.proofs.Sizes.{set_size}
use Rattle.bk_image.proofs.numbers.sets_fault.Goals as goal

pub overflow_add-place : goal.overflow_add-place
overflow_add-place c =
    let get = slice_get_read c.args.sets.now _ c.loop-names.names-index c.names-item.result refl c.loop-names-test.true c.names-item.is in
    omega (arith, c.requires, c.loop-names.invariant.here, place_within set c.args.at c.args.sets.now c.loop-names.names-index c.names-item.result get, set_size c.names-item.result)

pub names_end-place-requires : goal.names_end-place-requires
names_end-place-requires c =
    let get = slice_get_read c.args.sets.now _ c.loop-names.names-index c.names-item.result refl c.loop-names-test.true c.names-item.is in
    omega (
      arith,
      c.requires,
      c.loop-names.invariant.here,
      place_within set c.args.at c.args.sets.now c.loop-names.names-index c.names-item.result get,
      set_size c.names-item.result,
      ap (λ names. length (flat_map text names)) c.as_slice-in-loop-names.ensures,
    )

pub returns-then-has_too_many_elements : goal.returns-then-has_too_many_elements
returns-then-has_too_many_elements c =
    let image = c.args.image.now in
    let get = slice_get_read c.args.sets.now _ c.loop-names.names-index c.names-item.result refl c.loop-names-test.true c.names-item.is in
    let same = ap length c.as_slice.ensures in
    let many : HasFewElements (int_max image) c.names-item.result → ⊥ = λ few. omega (arith, ints, few, same, c.if-has_too_many_elements.ensures) in
    first_in set (IsSetFault image) (λ k names. HasFewElements (int_max image) names) (set_judges image) c.args.at c.args.sets.now c.loop-names.names-index c.names-item.result (BadSlot c.loop-names.place)
    c.loop-names.invariant.good get
    (subst (λ at. IsFirst (IsSetFault image c.loop-names.names-index at c.names-item.result) (BadSlot c.loop-names.place)) c.loop-names.invariant.here
    (first_few image c.loop-names.names-index c.loop-names.place c.names-item.result many))

pub loop-names-preserved : goal.loop-names-preserved
loop-names-preserved c =
    let get = slice_get_read c.args.sets.now _ c.loop-names.names-index c.names-item.result refl c.loop-names-test.true c.names-item.is in
    let few = subst (λ names. HasFewElements (int_max c.args.image.now) names) c.as_slice.ensures c.if-has_too_many_elements.ensures in
    record {
      here = omega (
        arith,
        c.loop-names.invariant.here,
        place_more set c.args.at c.args.sets.now c.loop-names.names-index c.names-item.result get,
        set_size c.names-item.result,
        ap (λ names. length (flat_map text names)) c.as_slice-in-loop-names.ensures,
        c.names_end-place.ensures,
      );
      good = good_more (λ k names. HasFewElements (int_max c.args.image.now) names) c.args.sets.now c.loop-names.names-index c.names-item.result c.loop-names.invariant.good get few;
    }
