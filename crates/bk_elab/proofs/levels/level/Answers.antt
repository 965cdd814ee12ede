use Rattle.std.proofs.Common.{◌≡◌, ◌∙◌, sym, ap, subst, refl, length, ℤ, to_z-of_z}
use Rattle.std.specs.Option.{option_copied}
use Rattle.bk_dev.specs.Development.{Development}
use Rattle.bk_dev.specs.Facts.{HomesAreThere}
use Rattle.bk_raw.specs.Errors.Blame.{blame}
use Rattle.bk_raw.specs.Errors.Faults.{Fault}
use Rattle.bk_elab_terms.specs.Shown.{told}
use Rattle.bk_statics.specs.Above.{above_of}
use Rattle.bk_statics.specs.Components.{Component, is_machine}
use Rattle.bk_statics.specs.Verdict.{all_faults}
use Rattle.bk_scope.specs.Shown.{component_shown}
use Rattle.bk_elab.proofs.Assembling.{limit-told, fault-told, machine-alone}
use Rattle.bk_elab.proofs.Leveling.{at-home, at-levels, at-sets, levelled, IsLevelled}
use Rattle.bk_elab.proofs.levels.level.Goals as goal

pub returns-then-declares_too_many-clause-fault : goal.returns-then-declares_too_many-clause-fault
returns-then-declares_too_many-clause-fault c =
    limit-told c.args.max c.args.above c.args.raw.now (component_shown c.in_ok-component.component) (above_of c.args.above) c.in_ok-component.ensures refl
    (sym c.if-declares_too_many.true ∙ c.declares_too_many.ensures)

pub part_of-requires-clause-alone : goal.part_of-requires-clause-alone
part_of-requires-clause-alone c = λ h.
    ap above_of c.as_ref.ensures.value ∙ machine-alone c.args.raw.now.kind c.args.above c.requires.above (sym (ap (λ (k : Component). is_machine k.kind) c.in_ok-component.ensures) ∙ h)

pub part_of-requires-clause-homes : goal.part_of-requires-clause-homes
part_of-requires-clause-homes c = subst HomesAreThere (sym (ap above_of c.as_ref.ensures.value)) (at-levels c.args.raw.now.kind c.args.above c.requires.above)

pub part_of-requires-clause-all_at_home : goal.part_of-requires-clause-all_at_home
part_of-requires-clause-all_at_home c = at-home-of (ap above_of c.as_ref.ensures.value) (at-home c.args.raw.now.kind c.args.above c.requires.above)
  where
    at-home-of : {dev other : Development} → dev ≡ other → length other.homes ≡ length other.table.variables → length dev.homes ≡ length dev.table.variables
    at-home-of e h = subst (λ (d : Development). length d.homes ≡ length d.table.variables) (sym e) h

pub returns-in-Some-clause-fault : goal.returns-in-Some-clause-fault
returns-in-Some-clause-fault c =
    let dev = above_of (option_copied c.as_ref.result) in
    let k = component_shown c.in_ok-component.component in
    let f : Fault = (c.in-Some.fault.kind, c.in-Some.fault.place) in (
      f,
      fault-told c.args.max c.args.above c.args.raw.now k dev c.in_ok-component.ensures (ap above_of c.as_ref.ensures.value) f (sym c.if-declares_too_many.false ∙ c.declares_too_many.ensures)
          (sym (ap told c.in-Some.is) ∙ (c.in_ok-judged.ensures.fault ∙ ap (λ (m : ℤ). blame (all_faults m dev k)) (to_z-of_z c.ranges.max))),
      λ i. (sym c.number.ensures i, c.in-Some.fault.place),
    )

pub counted-requires-clause-sets : goal.counted-requires-clause-sets
counted-requires-clause-sets c = at-sets c.args.raw.now.kind c.args.above c.requires.above

pub counted-requires-clause-room : goal.counted-requires-clause-room
counted-requires-clause-room c = λ room.
    (levelled c.args.max _ c.args.above c.args.raw.now (component_shown c.in_ok-component.component) (above_of (option_copied c.as_ref.result)) c.in_ok-judged.judged.added (to_z-of_z c.ranges.max) c.in_ok-component.ensures (ap above_of c.as_ref.ensures.value)
    c.requires.above c.requires.range (sym c.if-declares_too_many.false ∙ c.declares_too_many.ensures) (sym (ap told c.in_default.is) ∙ c.in_ok-judged.ensures.fault) c.in_ok-judged.ensures.added room).development

pub returns : goal.returns
returns c =
    let all = subst (IsLevelled c.args.max c.args.above c.args.raw.now) (sym c.in_ok-made.ensures.made)
    (levelled c.args.max _ c.args.above c.args.raw.now (component_shown c.in_ok-component.component) (above_of (option_copied c.as_ref.result)) c.in_ok-judged.judged.added (to_z-of_z c.ranges.max) c.in_ok-component.ensures (ap above_of c.as_ref.ensures.value)
    c.requires.above c.requires.range (sym c.if-declares_too_many.false ∙ c.declares_too_many.ensures) (sym (ap told c.in_default.is) ∙ c.in_ok-judged.ensures.fault) c.in_ok-judged.ensures.added c.in_ok-made.ensures.room) in
    record { level = all.verdict; fault = tt; development = all.development; room = all.room; executable = all.executable }
