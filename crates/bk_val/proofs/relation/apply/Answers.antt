use Rattle.std.proofs.Common.{◌≡◌, ◌↔◌, ◌∙◌, sym, ap, subst}
use Rattle.std.specs.Prelude.{Option, Some, None}
use Rattle.bk_val.specs.Value.{MathValue}
use Rattle.bk_val.specs.Sets.{apply_of, IsOnlyValue}
use Rattle.bk_val.proofs.Relations.{apply_of-some, apply_of-none}
use Rattle.bk_val.proofs.StoredSets.{stored_set-sorted}
use Rattle.bk_val.proofs.relation.apply.Goals as goal
use Rattle.bk_val.proofs.relation.apply.Goals.{In_ok-copy-in-Some}

found : (c : In_ok-copy-in-Some) → apply_of c.args.f.now c.args.x.now ≡ Some c.in_ok-copy-in-Some.field-0
found c = sym c.in-Some.ensures.exact ∙ ap Some (sym c.in_ok-copy-in-Some.ensures.same)

pub returns-in_ok-copy-in-Some-clause-some : goal.returns-in_ok-copy-in-Some-clause-some
returns-in_ok-copy-in-Some-clause-some c y =
    subst (λ (o : Option MathValue). (o ≡ Some y) ↔ IsOnlyValue c.args.f.now c.args.x.now y) (found c) (apply_of-some c.args.f.now c.args.x.now y (stored_set-sorted c.args.f.now c.in-Some.ensures.well_formed))

pub returns-in_ok-copy-in-Some-clause-none : goal.returns-in_ok-copy-in-Some-clause-none
returns-in_ok-copy-in-Some-clause-none c =
    subst (λ (o : Option MathValue). (o ≡ None) ↔ ((y : MathValue) → ¬ IsOnlyValue c.args.f.now c.args.x.now y)) (found c) (apply_of-none c.args.f.now c.args.x.now (stored_set-sorted c.args.f.now c.in-Some.ensures.well_formed))

pub returns-in-None-clause-some : goal.returns-in-None-clause-some
returns-in-None-clause-some c y =
    subst (λ (o : Option MathValue). (o ≡ Some y) ↔ IsOnlyValue c.args.f.now c.args.x.now y) (sym c.in-None.ensures.exact) (apply_of-some c.args.f.now c.args.x.now y (stored_set-sorted c.args.f.now c.in-None.ensures.well_formed))

pub returns-in-None-clause-none : goal.returns-in-None-clause-none
returns-in-None-clause-none c =
    subst (λ (o : Option MathValue). (o ≡ None) ↔ ((y : MathValue) → ¬ IsOnlyValue c.args.f.now c.args.x.now y)) (sym c.in-None.ensures.exact) (apply_of-none c.args.f.now c.args.x.now (stored_set-sorted c.args.f.now c.in-None.ensures.well_formed))
