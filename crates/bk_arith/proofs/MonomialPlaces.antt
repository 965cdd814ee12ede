-- The first monomial of some atoms: what is added to it, and what stays without it.
use Rattle.std.proofs.Common.{◌≡◌, ℕ, suc, ◌+◌, pos, ◌+ℤ◌, ◌-ℤ◌, List, [], ◌∷◌, ◌++◌, take, drop, refl, ◌∙◌, ap, Bool, true, false, cond, arith}
use Rattle.std.specs.Prelude.{Option, Some, None, slice_get, slice_set}
use Rattle.std.specs.List.{position_from}
use Rattle.std.specs.Option.{option_map}
use Rattle.std.specs.Ordering.{int_eq}
use Rattle.bk_arith.specs.ClosedSum.{if_fits}
use Rattle.bk_arith.specs.Polynomials.{Monomial, same_atoms, added, negated_behind, subtracted, taken}

map-map : {A B C : Type 0} (f : B → C) (g : A → B) (o : Option A) → option_map f (option_map g o) ≡ option_map (λ x. f (g x)) o
map-map f g None = refl
map-map f g (Some x) = refl

map-cond : {A B : Type 0} (f : A → B) (b : Bool) (x : A) → option_map f (cond b (Some x) None) ≡ cond b (Some (f x)) None
map-cond f true x = refl
map-cond f false x = refl

-- monomial i is the first one of these atoms
pub record Placed (t : Monomial) (us : List Monomial) (i : ℕ) : Type 0 where
  pub item : Monomial
  pub is_item : slice_get us i ≡ Some item
  pub adds : added t us ≡ option_map (λ c. slice_set us i (c, item.1)) (if_fits (t.0 +ℤ item.0))
  pub subtracts : subtracted t us ≡ option_map (λ c. slice_set us i (c, item.1)) (if_fits (item.0 -ℤ t.0))
  pub takes : taken t us ≡ cond (int_eq t.0 item.0) (Some (take i us ++ drop (suc i) us)) None

abbrev Found : Monomial → ℕ → List Monomial → ℕ → Type 0
Found t n us j = (i : ℕ) × (j ≡ n + i) × Placed t us i

pub placed : (t : Monomial) (n : ℕ) (us : List Monomial) (j : ℕ) → position_from (λ m. same_atoms t.1 m.1) n us ≡ Some j → Found t n us j
placed t n [] j h = absurd (cc)
placed t n (u ∷ us) j h = by_test (placed t (n + 1) us j) (same_atoms t.1 u.1) refl h
  where
    by_test : (position_from (λ m. same_atoms t.1 m.1) (n + 1) us ≡ Some j → Found t (n + 1) us j) → (b : Bool) → same_atoms t.1 u.1 ≡ b → cond b (Some n) (position_from (λ m. same_atoms t.1 m.1) (n + 1) us) ≡ Some j → Found t n (u ∷ us) j
    by_test on true e k =
        let same : n ≡ j = cc in (
          0,
          omega (arith, same),
          record {
            item = u;
            is_item = refl;
            adds = ap (λ b. cond b (option_map (λ c. (c, u.1) ∷ us) (if_fits (t.0 +ℤ u.0))) (option_map (λ r. u ∷ r) (added t us))) e;
            subtracts = ap (λ b. cond b (option_map (λ c. (c, u.1) ∷ us) (if_fits (u.0 -ℤ t.0))) (option_map (λ r. u ∷ r) (subtracted t us))) e;
            takes = ap (λ b. cond b (cond (int_eq t.0 u.0) (Some us) None) (option_map (λ r. u ∷ r) (taken t us))) e;
          },
        )
    by_test on false e k =
        let rest = on k in
        let i = rest.0 in
        let p = rest.2 in
        let where_from = rest.1 in (
          suc i,
          omega (arith, where_from),
          record {
            item = p.item;
            is_item = p.is_item;
            adds =
                ap (λ b. cond b (option_map (λ c. (c, u.1) ∷ us) (if_fits (t.0 +ℤ u.0))) (option_map (λ r. u ∷ r) (added t us))) e
                ∙ ap (option_map (λ r. u ∷ r)) p.adds
                ∙ map-map (λ r. u ∷ r) (λ c. slice_set us i (c, p.item.1)) (if_fits (t.0 +ℤ p.item.0));
            subtracts =
                ap (λ b. cond b (option_map (λ c. (c, u.1) ∷ us) (if_fits (u.0 -ℤ t.0))) (option_map (λ r. u ∷ r) (subtracted t us))) e
                ∙ ap (option_map (λ r. u ∷ r)) p.subtracts
                ∙ map-map (λ r. u ∷ r) (λ c. slice_set us i (c, p.item.1)) (if_fits (p.item.0 -ℤ t.0));
            takes =
                ap (λ b. cond b (cond (int_eq t.0 u.0) (Some us) None) (option_map (λ r. u ∷ r) (taken t us))) e
                ∙ ap (option_map (λ r. u ∷ r)) p.takes
                ∙ map-cond (λ r. u ∷ r) (int_eq t.0 p.item.0) (take i us ++ drop (suc i) us);
          },
        )

-- none is
abbrev Last : Monomial → List Monomial → Type 0
Last t us = (added t us ≡ Some (us ++ t ∷ [])) × (taken t us ≡ None) × (subtracted t us ≡ negated_behind t us)

pub unplaced : (t : Monomial) (n : ℕ) (us : List Monomial) → position_from (λ m. same_atoms t.1 m.1) n us ≡ None → Last t us
unplaced t n [] h = (refl, refl, refl)
unplaced t n (u ∷ us) h = by_test (unplaced t (n + 1) us) (same_atoms t.1 u.1) refl h
  where
    by_test : (position_from (λ m. same_atoms t.1 m.1) (n + 1) us ≡ None → Last t us) → (b : Bool) → same_atoms t.1 u.1 ≡ b → cond b (Some n) (position_from (λ m. same_atoms t.1 m.1) (n + 1) us) ≡ None → Last t (u ∷ us)
    by_test on true e k = absurd (cc)
    by_test on false e k =
        let rest = on k in (
          ap (λ b. cond b (option_map (λ c. (c, u.1) ∷ us) (if_fits (t.0 +ℤ u.0))) (option_map (λ r. u ∷ r) (added t us))) e ∙ ap (option_map (λ r. u ∷ r)) rest.0,
          ap (λ b. cond b (cond (int_eq t.0 u.0) (Some us) None) (option_map (λ r. u ∷ r) (taken t us))) e ∙ ap (option_map (λ r. u ∷ r)) rest.1,
          ap (λ b. cond b (option_map (λ c. (c, u.1) ∷ us) (if_fits (u.0 -ℤ t.0))) (option_map (λ r. u ∷ r) (subtracted t us))) e
              ∙ ap (option_map (λ r. u ∷ r)) rest.2
              ∙ map-map (λ r. u ∷ r) (λ c. us ++ (c, t.1) ∷ []) (if_fits (pos 0 -ℤ t.0)),
        )
