use Rattle.std.proofs.Common.{◌≡◌, ◌∙◌, ℤ, sym, subst, refl, w64, to_z, of_z, to_z-of_z}
use Rattle.bk_raw.specs.Trees.ComponentTree.{RawComponent}
use Rattle.bk_statics.specs.Verdict.{verdict_of, accepted, AnswersFault}
use Rattle.bk_statics.specs.VerdictLaws.{IsRangeBelow}
use Rattle.bk_elab.specs.Answered.{SaysOfComponent}
use Rattle.bk_front.specs.Stages.{IsNextRefusal}
use Rattle.bk_front.proofs.Levels.{complete_of, implements, no_limit}
use Rattle.bk_front.proofs.reading.next_level.Goals as goal

pub level-requires-clause-range : goal.level-requires-clause-range
level-requires-clause-range c = subst (λ (m : ℤ). IsRangeBelow m c.args.above) (sym (to_z-of_z c.ranges.max)) c.requires.range

pub returns-in-Ok-clause-level : goal.returns-in-Ok-clause-level
returns-in-Ok-clause-level c = subst (λ (m : ℤ). verdict_of m c.args.above c.args.component.now ≡ accepted c.in-Ok.dev) (to_z-of_z c.ranges.max) c.in-Ok.ensures.level

pub returns-in-Ok-clause-executable : goal.returns-in-Ok-clause-executable
returns-in-Ok-clause-executable c complete =
    let same = complete_of (to_z w64 (of_z w64 c.args.max)) c.args.above c.args.component.now c.in-Ok.dev c.in-Ok.ensures.level in
    c.in-Ok.ensures.executable (implements c.args.component.now.kind (sym same ∙ complete)) c.requires.low

pub returns-in-Ok-clause-complete : goal.returns-in-Ok-clause-complete
returns-in-Ok-clause-complete c = complete_of (to_z w64 (of_z w64 c.args.max)) c.args.above c.args.component.now c.in-Ok.dev c.in-Ok.ensures.level

pub returns-in-Err-Fault-clause-refusal : goal.returns-in-Err-Fault-clause-refusal
returns-in-Err-Fault-clause-refusal c =
    let raw : RawComponent = c.args.component.now in
    let number = c.in-Err-Fault.number in
    let place = c.in-Err-Fault.place in
    let said = subst (SaysOfComponent (verdict_of (to_z w64 (of_z w64 c.args.max)) c.args.above raw)) c.in-Err-Fault.field-0-is c.in-Err-Fault.ensures.fault in
    let told = subst (λ (m : ℤ). AnswersFault (verdict_of m c.args.above raw) number place) (to_z-of_z c.ranges.max) said in
    subst (IsNextRefusal c.args.max c.args.above raw c.args.file) (sym c.with_number.ensures) (refl, told)

pub returns-in-Err-Limit-clause-refusal : goal.returns-in-Err-Limit-clause-refusal
returns-in-Err-Limit-clause-refusal c =
    let raw : RawComponent = c.args.component.now in
    let most : ℤ = to_z w64 (of_z w64 c.args.max) in
    let said = subst (SaysOfComponent (verdict_of most c.args.above raw)) c.in-Err-Limit.field-0-is c.in-Err-Limit.ensures.fault in
    absurd (no_limit most c.args.above raw c.in-Err-Limit.number c.requires.few said)
