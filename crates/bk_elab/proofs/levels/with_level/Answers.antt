use Rattle.std.proofs.Common.{◌≡◌, sym, subst, IfOk, ℤ, w64, to_z, of_z, to_z-of_z}
use Rattle.std.specs.Prelude.{Option}
use Rattle.bk_dev.specs.Development.{Development}
use Rattle.bk_dev.specs.Facts.{IsDevelopment}
use Rattle.bk_statics.specs.Above.{above_of}
use Rattle.bk_elab.specs.Answered.{with_level}
use Rattle.bk_elab.proofs.levels.with_level.Goals as goal

pub below-requires-clause-sets : goal.below-requires-clause-sets
below-requires-clause-sets c = subst (λ (o : Option Development). (above_of o).sets ≡ (above_of o).table.sets) c.in-Some.is c.requires.sets

pub below-requires-clause-development : goal.below-requires-clause-development
below-requires-clause-development c =
    subst (λ (o : Option Development). IsDevelopment (with_level (to_z w64 (of_z w64 c.args.max)) o c.args.added)) c.in-Some.is
    (subst (λ (n : ℤ). IsDevelopment (with_level n c.args.above c.args.added)) (sym (to_z-of_z c.ranges.max)) c.requires.development)

pub alone-requires : goal.alone-requires
alone-requires c =
    subst (λ (o : Option Development). IsDevelopment (with_level (to_z w64 (of_z w64 c.args.max)) o c.args.added)) c.in-None.is
    (subst (λ (n : ℤ). IsDevelopment (with_level n c.args.above c.args.added)) (sym (to_z-of_z c.ranges.max)) c.requires.development)

pub returns-in-Some : goal.returns-in-Some
returns-in-Some c =
    subst (λ (n : ℤ). IfOk c.below.result (λ dev. dev ≡ with_level n c.args.above c.args.added)) (to_z-of_z c.ranges.max)
    (subst (λ (o : Option Development). IfOk c.below.result (λ dev. dev ≡ with_level (to_z w64 (of_z w64 c.args.max)) o c.args.added)) (sym c.in-Some.is) c.below.ensures)

pub returns-in-None : goal.returns-in-None
returns-in-None c =
    subst (λ (n : ℤ). IfOk c.alone.result (λ dev. dev ≡ with_level n c.args.above c.args.added)) (to_z-of_z c.ranges.max)
    (subst (λ (o : Option Development). IfOk c.alone.result (λ dev. dev ≡ with_level (to_z w64 (of_z w64 c.args.max)) o c.args.added)) (sym c.in-None.is) c.alone.ensures)
