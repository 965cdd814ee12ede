use Rattle.std.proofs.Common.{◌∙◌, ap, sym, subst, ℤ, to_z-of_z}
use Rattle.bk_dev.specs.Development.{Development}
use Rattle.bk_dev.specs.Facts.{IsDevelopment}
use Rattle.bk_statics.specs.Above.{above_of}
use Rattle.bk_statics.specs.VerdictLaws.{HasRoom}
use Rattle.bk_elab.specs.Answered.{development_below, with_level}
use Rattle.bk_elab.proofs.levels.counted.Goals as goal

pub with_level-requires-clause-development : goal.with_level-requires-clause-development
with_level-requires-clause-development c =
    let room : HasRoom (development_below c.args.max (above_of c.args.above) c.args.added) =
    subst (λ (d : Development). HasRoom (development_below c.args.max d c.args.added)) (ap above_of c.as_ref.ensures.value) (c.in_ok-count_all.ensures c.args.max) in
    subst (λ (n : ℤ). IsDevelopment (with_level n c.args.above c.args.added)) (sym (to_z-of_z c.ranges.max)) (c.requires.room room)

pub returns-clause-made : goal.returns-clause-made
returns-clause-made c = c.in_ok-made.ensures ∙ ap (λ (n : ℤ). with_level n c.args.above c.args.added) (to_z-of_z c.ranges.max)

pub returns-clause-room : goal.returns-clause-room
returns-clause-room c = subst (λ (d : Development). HasRoom (development_below c.args.max d c.args.added)) (ap above_of c.as_ref.ensures.value) (c.in_ok-count_all.ensures c.args.max)
