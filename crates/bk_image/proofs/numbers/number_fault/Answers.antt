use Rattle.std.proofs.Common.{◌≡◌, ◌+◌, ◌∙◌, ◌<◌, arith, ap, subst, sym, length, All}
use Rattle.std.specs.List.{flat_map}
use Rattle.std.proofs.lemmas.Bool.{false≢true}
use Rattle.bk_code.specs.Numbers.{int_max}
use Rattle.bk_image.specs.declared.fault.LoadFault.TheVariants.{BadSlot}
use Rattle.bk_image.specs.Spelling.{set, HasFewElements}
use Rattle.bk_image.specs.Faults.{IsFirst, IsFaultIn, IsSetFault, IsNumberFault}
use Rattle.bk_image.proofs.FirstNumber.{first_max, first_cells, first_sets, first_set}
use Rattle.bk_image.proofs.Sizes.{sets_end, ops_end, laid_out_size}
use Rattle.bk_image.proofs.Versions.{wrong_max}
use Rattle.bk_image.proofs.numbers.number_fault.Goals as goal

pub returns-then-not-has_right_max : goal.returns-then-not-has_right_max
returns-then-not-has_right_max c =
    let v = c.args.version in
    let image = c.args.image.now in
    first_max v image (wrong_max v (int_max image) (λ right. false≢true (sym c.if-not-has_right_max.true ∙ c.has_right_max.ensures.1 right)))

pub returns-then-image-gt-MOST_CELLS : goal.returns-then-image-gt-MOST_CELLS
returns-then-image-gt-MOST_CELLS c =
    subst (λ at. IsFirst (IsNumberFault c.args.version c.args.image.now) (BadSlot at)) (sym c.cells_begin-cells.ensures.place)
    (first_cells c.args.version c.args.image.now (c.has_right_max.ensures.0 c.if-not-has_right_max.false) c.if-image-gt-MOST_CELLS.true)

pub returns-then-has_too_many_sets : goal.returns-then-has_too_many_sets
returns-then-has_too_many_sets c =
    subst (λ at. IsFirst (IsNumberFault c.args.version c.args.image.now) (BadSlot (at + 4))) (sym c.cells_begin-cells.ensures.place)
    (first_sets c.args.version c.args.image.now (c.has_right_max.ensures.0 c.if-not-has_right_max.false) c.if-image-gt-MOST_CELLS.false c.if-has_too_many_sets.ensures)

pub sets_fault-requires : goal.sets_fault-requires
sets_fault-requires c =
    let v = c.args.version in
    let image = c.args.image.now in
    omega (arith, c.requires.room, laid_out_size v image, sets_end v image, ops_end v image, c.cells_begin-cells.ensures.place, ap (λ ss. length (flat_map set ss)) c.as_slice.ensures)

pub returns-in-Some : goal.returns-in-Some
returns-in-Some c =
    let v = c.args.version in
    let image = c.args.image.now in
    let e = c.in-Some.fault in
    let sets = subst (λ ss. IsFirst (IsFaultIn set (IsSetFault image) (c.cells_begin-cells.result + 6) ss) e) c.as_slice.ensures c.in-Some.ensures in
    first_set v image e (c.has_right_max.ensures.0 c.if-not-has_right_max.false) c.if-image-gt-MOST_CELLS.false c.if-has_too_many_sets.ensures
    (subst (λ at. IsFirst (IsFaultIn set (IsSetFault image) (at + 6) image.sets) e) c.cells_begin-cells.ensures.place sets)

pub number_fault_behind-requires-clause-elements : goal.number_fault_behind-requires-clause-elements
number_fault_behind-requires-clause-elements c = subst (λ ss. All (λ names. HasFewElements (int_max c.args.image.now) names) ss) c.as_slice.ensures c.in_default.ensures

pub number_fault_behind-requires-clause-max : goal.number_fault_behind-requires-clause-max
number_fault_behind-requires-clause-max c = c.has_right_max.ensures.0 c.if-not-has_right_max.false
