use Rattle.std.proofs.Common.{◌≡◌, List, ℕ, ℤ, None, Some, refl, sym, subst, arith, w64, to_z, of_z, to_z-of_z}
use Rattle.bk_statics.specs.VerdictLaws.{IsRangeBelow}
use Rattle.bk_sources.proofs.FileSteps.{bytes_of, read_counted}
use Rattle.bk_sources.proofs.Turns.{all_at, zip_at}
use Rattle.bk_front.specs.Project.{DeclaresFew, IsLow, IsRefusalIn}
use Rattle.bk_front.specs.Stages.{IsNextRefusal}
use Rattle.bk_front.proofs.Levels.{LevelsSoFar, some_component, first_stands, next_stands, level_on, level_refused}
use Rattle.bk_front.proofs.Steps.{err_told}
use Rattle.bk_front.proofs.reading.all_levels.Goals as goal

pub bounds-components-0 : goal.bounds-components-0
bounds-components-0 c = some_component c.args.kinds.now (bytes_of c.args.texts.now) c.args.components.now c.requires.chain c.requires.chained

pub next_level-requires-clause-above : goal.next_level-requires-clause-above
next_level-requires-clause-above c = first_stands c.args.kinds.now (bytes_of c.args.texts.now) c.args.components.now c.index-components-0.result c.requires.chain c.requires.chained c.index-components-0.is

pub next_level-requires-clause-range : goal.next_level-requires-clause-range
next_level-requires-clause-range c = subst (λ (m : ℤ). IsRangeBelow m None) (sym (to_z-of_z c.ranges.max)) c.requires.range

pub next_level-requires-clause-few : goal.next_level-requires-clause-few
next_level-requires-clause-few c =
    let some = some_component c.args.kinds.now (bytes_of c.args.texts.now) c.args.components.now c.requires.chain c.requires.chained in
    all_at DeclaresFew c.args.components.now 0 c.index-components-0.result some c.index-components-0.is c.requires.few

pub next_level-requires-clause-low : goal.next_level-requires-clause-low
next_level-requires-clause-low c =
    let some = some_component c.args.kinds.now (bytes_of c.args.texts.now) c.args.components.now c.requires.chain c.requires.chained in
    (zip_at IsLow (bytes_of c.args.texts.now) c.args.components.now 0 c.index-components-0.result some c.index-components-0.is c.requires.chained.each).so.low

pub returns-in_err-dev-clause-refusal : goal.returns-in_err-dev-clause-refusal
returns-in_err-dev-clause-refusal c =
    let texts : List (List ℕ) = bytes_of c.args.texts.now in
    let some = some_component c.args.kinds.now texts c.args.components.now c.requires.chain c.requires.chained in
    let told = subst (λ (m : ℤ). IsNextRefusal m None c.index-components-0.result 0 c.in_err-dev.field-0.0) (to_z-of_z c.ranges.max) c.in_err-dev.ensures.refusal in
    err_told c.from_residual.result c.in_err-dev.field-0.0 (IsRefusalIn c.args.max c.args.kinds.now texts) c.from_residual.ensures.1
    (level_refused c.args.max c.args.kinds.now texts c.args.components.now 0 c.index-components-0.result None c.in_err-dev.field-0.0 c.requires.chained c.requires.few some c.index-components-0.is refl told)

pub loop-file-init : goal.loop-file-init
loop-file-init c =
    let some = some_component c.args.kinds.now (bytes_of c.args.texts.now) c.args.components.now c.requires.chain c.requires.chained in
    let e = c.in_ok-dev.ensures in
    let m = to_z w64 (of_z w64 c.args.max) in
    level_on m c.args.kinds.now (bytes_of c.args.texts.now) c.args.components.now 0 c.index-components-0.result None c.in_ok-dev.dev c.requires.chain c.requires.chained some c.index-components-0.is refl e.level e.development e.complete e.executable

pub next_level-requires-in-loop-file-clause-above : goal.next_level-requires-in-loop-file-clause-above
next_level-requires-in-loop-file-clause-above c = next_stands (to_z w64 (of_z w64 c.args.max)) c.args.kinds.now (bytes_of c.args.texts.now) c.args.components.now c.loop-file.file c.index-components-file.result c.loop-file.dev c.requires.chain c.requires.chained c.loop-file-test.true c.index-components-file.is c.loop-file.invariant

pub next_level-requires-in-loop-file-clause-range : goal.next_level-requires-in-loop-file-clause-range
next_level-requires-in-loop-file-clause-range c = c.loop-file.invariant.range

pub next_level-requires-in-loop-file-clause-low : goal.next_level-requires-in-loop-file-clause-low
next_level-requires-in-loop-file-clause-low c = (zip_at IsLow (bytes_of c.args.texts.now) c.args.components.now c.loop-file.file c.index-components-file.result c.loop-file-test.true c.index-components-file.is c.requires.chained.each).so.low

pub next_level-requires-in-loop-file-clause-file : goal.next_level-requires-in-loop-file-clause-file
next_level-requires-in-loop-file-clause-file c = omega (arith, c.loop-file-test.true, c.requires.countable, read_counted c.args.texts.now c.args.components.now IsLow c.requires.chained.each)

pub returns-in_err-dev-2-clause-refusal : goal.returns-in_err-dev-2-clause-refusal
returns-in_err-dev-2-clause-refusal c =
    let texts : List (List ℕ) = bytes_of c.args.texts.now in
    let told = subst (λ (m : ℤ). IsNextRefusal m (Some c.loop-file.dev) c.index-components-file.result c.loop-file.file c.in_err-dev-2.field-0.0) (to_z-of_z c.ranges.max) c.in_err-dev-2.ensures.refusal in
    let so_far = subst (λ (m : ℤ). LevelsSoFar m c.args.kinds.now c.args.components.now c.loop-file.file c.loop-file.dev) (to_z-of_z c.ranges.max) c.loop-file.invariant in
    err_told c.from_residual-in_err-dev-2.result c.in_err-dev-2.field-0.0 (IsRefusalIn c.args.max c.args.kinds.now texts) c.from_residual-in_err-dev-2.ensures.1
    (level_refused c.args.max c.args.kinds.now texts c.args.components.now c.loop-file.file c.index-components-file.result (Some c.loop-file.dev) c.in_err-dev-2.field-0.0 c.requires.chained c.requires.few c.loop-file-test.true c.index-components-file.is so_far.levels told)

pub loop-file-preserved : goal.loop-file-preserved
loop-file-preserved c =
    let e = c.in_ok-dev-2.ensures in
    level_on (to_z w64 (of_z w64 c.args.max)) c.args.kinds.now (bytes_of c.args.texts.now) c.args.components.now c.loop-file.file c.index-components-file.result (Some c.loop-file.dev) c.in_ok-dev-2.dev c.requires.chain c.requires.chained c.loop-file-test.true c.index-components-file.is c.loop-file.invariant.levels e.level e.development e.complete e.executable
