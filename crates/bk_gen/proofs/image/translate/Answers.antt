use Rattle.std.proofs.Common.{inl, inr, sym, ◌∙◌, subst, arith}
use Rattle.std.proofs.lemmas.Bool.{false≢true}
use Rattle.bk_code.specs.Checks.{IsLoadable}
use Rattle.bk_dev.specs.Development.{IsRange}
use Rattle.bk_image.specs.Spelling.{HasSpelling}
use Rattle.bk_b0.specs.CodeUnit.{CodeUnit}
use Rattle.bk_gen.proofs.Lengths.{unit_long}
use Rattle.bk_gen.proofs.Ready.{unit_ready, unit_init, unit_bodies, unit_paired}
use Rattle.bk_gen.proofs.Spellings.{spelled_fits}
use Rattle.bk_gen.proofs.Whole.{at_most, few_or_many, unit_loads, unit_has_spelling}
use Rattle.bk_gen.proofs.image.translate.Goals as goal

pub returns-then-code_size-gt-MOST_INSTRUCTIONS-clause-too_long : goal.returns-then-code_size-gt-MOST_INSTRUCTIONS-clause-too_long
returns-then-code_size-gt-MOST_INSTRUCTIONS-clause-too_long c _ =
    let u = c.args.unit.now in
    let long = unit_long u (unit_init u c.facts.ensures) (unit_bodies u c.facts.ensures) in
    omega (arith, long, c.code_size.ensures, c.if-code_size-gt-MOST_INSTRUCTIONS.true)

pub returns-then-cell_count-gt-CELLS-clause-too_many : goal.returns-then-cell_count-gt-CELLS-clause-too_many
returns-then-cell_count-gt-CELLS-clause-too_many c _ =
    let u = c.args.unit.now in
    let long = unit_long u (unit_init u c.facts.ensures) (unit_bodies u c.facts.ensures) in
    (omega (arith, long, c.code_size.ensures, c.if-code_size-gt-MOST_INSTRUCTIONS.false), inl (few_or_many u c.slots.result.now c.cell_count.result c.slots.ensures c.cell_count.ensures c.if-cell_count-gt-CELLS.true))

pub returns-then-not-fits_fields-clause-too_many : goal.returns-then-not-fits_fields-clause-too_many
returns-then-not-fits_fields-clause-too_many c _ =
    let u = c.args.unit.now in
    let long = unit_long u (unit_init u c.facts.ensures) (unit_bodies u c.facts.ensures) in
    (omega (arith, long, c.code_size.ensures, c.if-code_size-gt-MOST_INSTRUCTIONS.false), inr (λ s. false≢true (sym c.if-not-fits_fields.true ∙ c.fits_fields.ensures.1 (spelled_fits u (unit_paired u c.facts.ensures) s))))

pub image_of-requires-clause-range : goal.image_of-requires-clause-range
image_of-requires-clause-range c = let w = c.facts.ensures in subst (λ (u : CodeUnit). IsRange u.arrays.max) (sym w.is) w.lawful.range

pub image_of-requires-clause-ready : goal.image_of-requires-clause-ready
image_of-requires-clause-ready c =
    let u = c.args.unit.now in
    unit_ready u c.facts.ensures (at_most u c.slots.result.now c.cell_count.result c.slots.ensures c.cell_count.ensures c.if-cell_count-gt-CELLS.false)

pub image_of-requires-clause-init : goal.image_of-requires-clause-init
image_of-requires-clause-init c = unit_init c.args.unit.now c.facts.ensures

pub image_of-requires-clause-bodies : goal.image_of-requires-clause-bodies
image_of-requires-clause-bodies c = unit_bodies c.args.unit.now c.facts.ensures

pub image_of-requires-clause-paired : goal.image_of-requires-clause-paired
image_of-requires-clause-paired c = unit_paired c.args.unit.now c.facts.ensures

pub returns-clause-checked : goal.returns-clause-checked
returns-clause-checked c =
    let u = c.args.unit.now in
    let long = unit_long u (unit_init u c.facts.ensures) (unit_bodies u c.facts.ensures) in
    subst IsLoadable (sym c.in_ok-image.ensures)
    (unit_loads u c.facts.ensures (at_most u c.slots.result.now c.cell_count.result c.slots.ensures c.cell_count.ensures c.if-cell_count-gt-CELLS.false) (omega (arith, long, c.code_size.ensures, c.if-code_size-gt-MOST_INSTRUCTIONS.false)) (c.fits_fields.ensures.0 c.if-not-fits_fields.false))

pub returns-clause-spelled : goal.returns-clause-spelled
returns-clause-spelled c =
    let u = c.args.unit.now in
    let long = unit_long u (unit_init u c.facts.ensures) (unit_bodies u c.facts.ensures) in
    subst HasSpelling (sym c.in_ok-image.ensures)
    (unit_has_spelling u c.facts.ensures (at_most u c.slots.result.now c.cell_count.result c.slots.ensures c.cell_count.ensures c.if-cell_count-gt-CELLS.false) (omega (arith, long, c.code_size.ensures, c.if-code_size-gt-MOST_INSTRUCTIONS.false)) (c.fits_fields.ensures.0 c.if-not-fits_fields.false))

pub returns-clause-within : goal.returns-clause-within
returns-clause-within c =
    let u = c.args.unit.now in
    let long = unit_long u (unit_init u c.facts.ensures) (unit_bodies u c.facts.ensures) in
    rw c.in_ok-image.ensures (omega (arith, long, c.code_size.ensures, c.if-code_size-gt-MOST_INSTRUCTIONS.false), at_most u c.slots.result.now c.cell_count.result c.slots.ensures c.cell_count.ensures c.if-cell_count-gt-CELLS.false)
