-- What conditions that are put together say.
use Rattle.std.proofs.Common.{◌≡◌, ◌↔◌, List, refl, sym, ◌∙◌, ap, Bool, true, false, not, ◌&&◌}
use Rattle.bk_val.specs.Value.{MathValue}
use Rattle.bk_val.specs.ValueType.{ValueType, are_of_types}
use Rattle.bk_form.specs.Table.{set_size}
use Rattle.bk_form.specs.Formula.{Formula, btrue, unary}
use Rattle.bk_form.specs.Search.{Finder, IsSearch}
use Rattle.bk_form.specs.Environment.{Environment, under}
use Rattle.bk_form.specs.Operators.{implies}
use Rattle.bk_form.specs.Meaning.{truth}
use Rattle.bk_form.specs.declared.operator.UnOp.TheVariants.{Not}
use Rattle.bk_form.proofs.Members.{and-true, and-both}
use Rattle.bk_form.proofs.Truth.{for_all-true}
use Rattle.bk_wd.specs.Joining.{both, where_true, all_over}

and-one : (a : Bool) → a ≡ (a && true)
and-one true = refl
and-one false = refl

implies-one : (a : Bool) → true ≡ implies a true
implies-one true = refl
implies-one false = refl

implies-then : (a b : Bool) → implies a b ≡ true → a ≡ true → b ≡ true
implies-then true b h k = h
implies-then false b h k = absurd (cc)

implies-if : (a b : Bool) → (a ≡ true → b ≡ true) → implies a b ≡ true
implies-if true b h = h refl
implies-if false b h = refl

module _ (find : Finder) (e : Environment) where
  both-truth : (p q : Formula) → truth find e (both p q) ≡ (truth find e p && truth find e q)
  both-truth btrue q = refl
  both-truth p btrue = by_form p
    where
      by_form : (p : Formula) → truth find e (both p btrue) ≡ (truth find e p && true)
      by_form btrue = refl
      by_form p = and-one (truth find e p)
  both-truth p q = refl

  where-truth : (p q : Formula) → truth find e (where_true p q) ≡ implies (truth find e p) (truth find e q)
  where-truth p btrue = implies-one (truth find e p)
  where-truth btrue q = refl
  where-truth p q = refl

  pub both-so : (p q : Formula) (A B : Type 0) → (truth find e p ≡ true) ↔ A → (truth find e q ≡ true) ↔ B → (truth find e (both p q) ≡ true) ↔ (A × B)
  both-so p q A B h k = (
    (λ x. let w = and-both (truth find e p) (truth find e q) (sym (both-truth p q) ∙ x) in (h.0 w.0, k.0 w.1)),
    (λ x. both-truth p q ∙ and-true (truth find e p) (truth find e q) (h.1 x.0) (k.1 x.1)),
  )

  pub where-so : (p q : Formula) (B : Type 0) → (truth find e q ≡ true) ↔ B → (truth find e (where_true p q) ≡ true) ↔ (truth find e p ≡ true → B)
  where-so p q B k = (
    (λ x y. k.0 (implies-then (truth find e p) (truth find e q) (sym (where-truth p q) ∙ x) y)),
    (λ x. where-truth p q ∙ implies-if (truth find e p) (truth find e q) (λ y. k.1 (x y))),
  )

  pub all_over-so : IsSearch find → (ts : List ValueType) (p : Formula) → (truth find e (all_over ts p) ≡ true) ↔ ((vs : List MathValue) → are_of_types (set_size e.table) ts vs ≡ true → truth find (under e ts vs) p ≡ true)
  all_over-so law ts btrue = ((λ h vs o. refl), (λ h. refl))
  all_over-so law ts p = by_form p
    where
      by_form : (p : Formula) → (truth find e (all_over ts p) ≡ true) ↔ ((vs : List MathValue) → are_of_types (set_size e.table) ts vs ≡ true → truth find (under e ts vs) p ≡ true)
      by_form btrue = ((λ h vs o. refl), (λ h. refl))
      by_form p = for_all-true find law e ts p

  pub not-so : (a : Formula) (B : Type 0) → (truth find e (unary Not a) ≡ true → B) ↔ (truth find e a ≡ false → B)
  not-so a B = ((λ f q. f (ap not q)), (λ f q. f (turned (truth find e a) q)))
    where
      turned : (x : Bool) → not x ≡ true → x ≡ false
      turned true h = absurd (cc)
      turned false h = refl

  pub through : (A B C : Type 0) → A ↔ B → B ↔ C → A ↔ C
  through A B C f g = ((λ a. g.0 (f.0 a)), (λ c. f.1 (g.1 c)))

  pub three-so : (own : Bool) (p q r : Formula) (A B : Type 0) → (truth find e p ≡ true) ↔ A → (truth find e q ≡ true) ↔ B → truth find e r ≡ own → (truth find e (both (both p q) r) ≡ true) ↔ (A × B × (own ≡ true))
  three-so own p q r A B f g w =
      let k = both-so (both p q) r (A × B) (own ≡ true) (both-so p q A B f g) ((λ h. sym w ∙ h), (λ h. w ∙ h)) in
      ((λ x. let y = k.0 x in (y.0.0, y.0.1, y.1)), (λ x. k.1 ((x.0, x.1), x.2)))

  -- a condition beside one that is left out
  pub alone-so : (p : Formula) (A : Type 0) → (truth find e p ≡ true) ↔ A → (truth find e (both p btrue) ≡ true) ↔ A
  alone-so p A f = let k = both-so p btrue A (true ≡ true) f ((λ h. h), (λ h. h)) in ((λ x. (k.0 x).0), (λ x. k.1 (x, refl)))

  -- the right side only where the left one is true, or only where it is false
  pub true-so : (a p q : Formula) (A B : Type 0) → (truth find e p ≡ true) ↔ A → (truth find e q ≡ true) ↔ B → (truth find e (both (both p (where_true a q)) btrue) ≡ true) ↔ (A × (truth find e a ≡ true → B))
  true-so a p q A B f g = alone-so (both p (where_true a q)) (A × (truth find e a ≡ true → B)) (both-so p (where_true a q) A (truth find e a ≡ true → B) f (where-so a q B g))

  pub false-so : (a p q : Formula) (A B : Type 0) → (truth find e p ≡ true) ↔ A → (truth find e q ≡ true) ↔ B → (truth find e (both (both p (where_true (unary Not a) q)) btrue) ≡ true) ↔ (A × (truth find e a ≡ false → B))
  false-so a p q A B f g =
      let w = through (truth find e (where_true (unary Not a) q) ≡ true) (truth find e (unary Not a) ≡ true → B) (truth find e a ≡ false → B) (where-so (unary Not a) q B g) (not-so a B) in
      alone-so (both p (where_true (unary Not a) q)) (A × (truth find e a ≡ false → B)) (both-so p (where_true (unary Not a) q) A (truth find e a ≡ false → B) f w)
