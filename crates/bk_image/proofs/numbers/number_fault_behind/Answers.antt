use Rattle.std.proofs.Common.{◌≡◌, ◌+◌, ◌∙◌, ◌<◌, arith, ap, subst, sym, length, All}
use Rattle.std.specs.Prelude.{MatchOption}
use Rattle.std.specs.List.{flat_map}
use Rattle.std.proofs.lemmas.Bool.{eqb-true, eqb-false}
use Rattle.bk_code.specs.Numbers.{int_max, IsRange}
use Rattle.bk_code.specs.Checks.{IsGoodEntry}
use Rattle.bk_image.specs.declared.fault.LoadFault.TheVariants.{BadJump}
use Rattle.bk_image.specs.Spelling.{entry, inst}
use Rattle.bk_image.specs.Faults.{IsFirst, IsFaultIn, IsEntryFault, IsOneInstFault, IsNumberFault, count_place}
use Rattle.bk_image.specs.Soundness.{AreSound}
use Rattle.bk_image.proofs.FirstNumber.{IsRightSoFar, first_ops, first_empty, judged_code}
use Rattle.bk_image.proofs.Sizes.{ops_end, laid_out_size}
use Rattle.bk_image.proofs.Versions.{right_range}
use Rattle.bk_image.proofs.numbers.number_fault_behind.Goals as goal

pub ops_begin-ops-requires : goal.ops_begin-ops-requires
ops_begin-ops-requires c =
    let v = c.args.version in
    let image = c.args.image.now in
    omega (arith, c.requires.room, laid_out_size v image, ops_end v image)

pub entries_fault-requires : goal.entries_fault-requires
entries_fault-requires c =
    let v = c.args.version in
    let image = c.args.image.now in
    omega (arith, c.requires.room, laid_out_size v image, ops_end v image, c.ops_begin-ops.ensures, ap (λ ops. length (flat_map entry ops)) c.as_slice.ensures)

pub returns-in-Some : goal.returns-in-Some
returns-in-Some c =
    let v = c.args.version in
    let image = c.args.image.now in
    let e = c.in-Some.fault in
    let so : IsRightSoFar v image = record { max = c.requires.max; cells = c.requires.cells; few_sets = c.requires.sets; few_elements = c.requires.elements } in
    let ops = subst (λ ops. IsFirst (IsFaultIn entry (IsEntryFault image) c.ops_begin-ops.result ops) e) c.as_slice.ensures c.in-Some.ensures in
    first_ops v image e so (subst (λ at. IsFirst (IsFaultIn entry (IsEntryFault image) at image.ops) e) c.ops_begin-ops.ensures ops)

pub entries_end-count-requires : goal.entries_end-count-requires
entries_end-count-requires c =
    let v = c.args.version in
    let image = c.args.image.now in
    omega (arith, c.requires.room, laid_out_size v image, ops_end v image, c.ops_begin-ops.ensures, ap (λ ops. length (flat_map entry ops)) c.as_slice-2.ensures)

pub returns-then-is_empty : goal.returns-then-is_empty
returns-then-is_empty c =
    let v = c.args.version in
    let image = c.args.image.now in
    let so : IsRightSoFar v image = record { max = c.requires.max; cells = c.requires.cells; few_sets = c.requires.sets; few_elements = c.requires.elements } in
    let good = subst (λ ops. All (IsGoodEntry image) ops) c.as_slice.ensures c.in_default.ensures in
    let none = ap length (sym c.as_slice-3.ensures) ∙ eqb-true (length c.as_slice-3.result.now) 0 (sym c.is_empty.ensures ∙ c.if-is_empty.true) in
    let count : c.entries_end-count.result ≡ count_place v image = omega (arith, ops_end v image, c.ops_begin-ops.ensures, c.entries_end-count.ensures, ap (λ ops. length (flat_map entry ops)) c.as_slice-2.ensures) in
    subst (λ at. IsFirst (IsNumberFault v image) (BadJump at)) (sym count) (first_empty v image so good none)

pub overflow_add-count : goal.overflow_add-count
overflow_add-count c =
    let v = c.args.version in
    let image = c.args.image.now in
    omega (arith, c.requires.room, laid_out_size v image, ops_end v image, c.ops_begin-ops.ensures, c.entries_end-count.ensures, ap (λ ops. length (flat_map entry ops)) c.as_slice-2.ensures)

pub code_fault-requires-clause-range : goal.code_fault-requires-clause-range
code_fault-requires-clause-range c = right_range c.args.version (int_max c.args.image.now) c.requires.fits.max c.requires.max

pub code_fault-requires-clause-few : goal.code_fault-requires-clause-few
code_fault-requires-clause-few c = c.requires.fits.few_insts

pub code_fault-requires-clause-room : goal.code_fault-requires-clause-room
code_fault-requires-clause-room c =
    let v = c.args.version in
    let image = c.args.image.now in
    omega (arith, c.requires.room, laid_out_size v image, ops_end v image, c.ops_begin-ops.ensures, c.entries_end-count.ensures, ap (λ ops. length (flat_map entry ops)) c.as_slice-2.ensures)

pub returns : goal.returns
returns c =
    let v = c.args.version in
    let image = c.args.image.now in
    let so : IsRightSoFar v image = record { max = c.requires.max; cells = c.requires.cells; few_sets = c.requires.sets; few_elements = c.requires.elements } in
    let good = subst (λ ops. All (IsGoodEntry image) ops) c.as_slice.ensures c.in_default.ensures in
    let other = eqb-false (length c.as_slice-3.result.now) 0 (sym c.is_empty.ensures ∙ c.if-is_empty.false) in
    let same = ap length c.as_slice-3.ensures in
    let some : 0 < length image.code = omega (arith, other, same) in
    let count : c.entries_end-count.result ≡ count_place v image = omega (arith, ops_end v image, c.ops_begin-ops.ensures, c.entries_end-count.ensures, ap (λ ops. length (flat_map entry ops)) c.as_slice-2.ensures) in
    let judged = subst (λ at. MatchOption c.code_fault.result (AreSound image image.code (length image.code)) (λ e. IsFirst (IsFaultIn inst (IsOneInstFault image) (at + 4) image.code) e)) count c.code_fault.ensures in
    judged_code v image c.code_fault.result c.requires.fits.max so good some c.requires.fits.few_insts judged
