-- The first stored monomial of some atoms: what is added to it, and what stays without it.
use Rattle.std.proofs.Common.{◌≡◌, ℕ, zero, suc, ◌<◌, ℤ, ◌+ℤ◌, ◌-ℤ◌, List, [], ◌∷◌, ◌++◌, take, drop, length, get_or, refl, sym, ◌∙◌, ap, subst, true, false, cond, arith}
use Rattle.std.proofs.lemmas.Int.{ints}
use Rattle.std.specs.Prelude.{Option, Some, None, slice_get, slice_set}
use Rattle.std.specs.List.{position_from, remove}
use Rattle.std.specs.Option.{option_map}
use Rattle.std.specs.Ordering.{int_eq}
use Rattle.std.proofs.lemmas.List.{take-map, map-append, map-set}
use Rattle.bk_arith.specs.ClosedSum.{if_fits}
use Rattle.bk_arith.specs.declared.multiplying.Monomial.{Monomial as StoredMonomial}
use Rattle.bk_arith.specs.Polynomials.{Monomial, same_atoms, added, negated_behind, subtracted, taken}
use Rattle.bk_arith.specs.Layout.{monomial_of, polynomial_of}
use Rattle.bk_arith.proofs.Options.{some-same}
use Rattle.bk_arith.proofs.MonomialPlaces.{Placed, placed, unplaced}

-- what stands at a place of the polynomial is what is stored there
stored : (ms : List StoredMonomial) (i : ℕ) (u : Monomial) → slice_get (polynomial_of ms) i ≡ Some u → (i < length ms) × ((m : StoredMonomial) → m ≡ get_or ms i m → u ≡ monomial_of m)
stored [] i u h = absurd (cc)
stored (k ∷ ms) zero u h = (omega arith, λ m e. sym (some-same (monomial_of k) u h) ∙ ap monomial_of (sym e))
stored (k ∷ ms) (suc i) u h =
    let rest = stored ms i u h in
    let within : i < length ms = rest.0 in
    (omega (arith, within), rest.1)

drop-map : (n : ℕ) (ms : List StoredMonomial) → drop n (polynomial_of ms) ≡ polynomial_of (drop n ms)
drop-map zero ms = refl
drop-map (suc n) [] = refl
drop-map (suc n) (m ∷ ms) = drop-map n ms

cut : (ms : List StoredMonomial) (i : ℕ) → take i (polynomial_of ms) ++ drop (suc i) (polynomial_of ms) ≡ polynomial_of (remove ms i)
cut ms i = (λ k. take-map monomial_of i ms k ++ drop-map (suc i) ms k) ∙ sym (map-append monomial_of (take i ms) (drop (suc i) ms))

mapped-same : {A B : Type 0} (f g : A → B) → ((x : A) → f x ≡ g x) → (o : Option A) → option_map f o ≡ option_map g o
mapped-same f g same None = refl
mapped-same f g same (Some x) = ap (λ y. Some y) (same x)

-- stored monomial i is the first one of these atoms
pub record Standing (t : Monomial) (ms : List StoredMonomial) (i : ℕ) : Type 0 where
  pub within : i < length ms
  pub adds : (m k : StoredMonomial) → m ≡ get_or ms i m → k ≡ get_or ms i k → added t (polynomial_of ms) ≡ option_map (λ c. polynomial_of (slice_set ms i (record { coefficient = c; atoms = m.atoms }))) (if_fits (t.0 +ℤ k.coefficient))
  pub subtracts : (m k : StoredMonomial) → m ≡ get_or ms i m → k ≡ get_or ms i k → subtracted t (polynomial_of ms) ≡ option_map (λ c. polynomial_of (slice_set ms i (record { coefficient = c; atoms = m.atoms }))) (if_fits (k.coefficient -ℤ t.0))
  pub takes : (m : StoredMonomial) → m ≡ get_or ms i m → taken t (polynomial_of ms) ≡ cond (int_eq t.0 m.coefficient) (Some (polynomial_of (remove ms i))) None

pub standing : (t : Monomial) (ms : List StoredMonomial) (i : ℕ) → position_from (λ m. same_atoms t.1 m.1) 0 (polynomial_of ms) ≡ Some i → Standing t ms i
standing t ms i h =
    let place = placed t 0 (polynomial_of ms) i h in
    let j = place.0 in
    let same : j ≡ i = omega (arith, place.1) in
    let p : Placed t (polynomial_of ms) i = subst (Placed t (polynomial_of ms)) same place.2 in
    let at = stored ms i p.item p.is_item in
    record {
      within = at.0;
      adds = λ m k e f.
          let item : p.item ≡ monomial_of m = at.1 m e in
          let other : p.item ≡ monomial_of k = at.1 k f in
          p.adds
          ∙ (λ n. option_map (λ c. slice_set (polynomial_of ms) i (c, (item n).1)) (if_fits (t.0 +ℤ (other n).0)))
          ∙ mapped-same (λ c. slice_set (polynomial_of ms) i (c, m.atoms.items)) (λ c. polynomial_of (slice_set ms i (record { coefficient = c; atoms = m.atoms })))
          (λ c. sym (map-set monomial_of ms i (record { coefficient = c; atoms = m.atoms }))) (if_fits (t.0 +ℤ k.coefficient));
      subtracts = λ m k e f.
          let item : p.item ≡ monomial_of m = at.1 m e in
          let other : p.item ≡ monomial_of k = at.1 k f in
          p.subtracts
          ∙ (λ n. option_map (λ c. slice_set (polynomial_of ms) i (c, (item n).1)) (if_fits ((other n).0 -ℤ t.0)))
          ∙ mapped-same (λ c. slice_set (polynomial_of ms) i (c, m.atoms.items)) (λ c. polynomial_of (slice_set ms i (record { coefficient = c; atoms = m.atoms })))
          (λ c. sym (map-set monomial_of ms i (record { coefficient = c; atoms = m.atoms }))) (if_fits (k.coefficient -ℤ t.0));
      takes = λ m e.
          let item : p.item ≡ monomial_of m = at.1 m e in
          p.takes
          ∙ ap (λ u. cond (int_eq t.0 u.0) (Some (take i (polynomial_of ms) ++ drop (suc i) (polynomial_of ms))) None) item
          ∙ ap (λ us. cond (int_eq t.0 m.coefficient) (Some us) None) (cut ms i);
    }

-- none is
pub added-last : (t : StoredMonomial) (ms : List StoredMonomial) → position_from (λ m. same_atoms t.atoms.items m.1) 0 (polynomial_of ms) ≡ None → added (monomial_of t) (polynomial_of ms) ≡ Some (polynomial_of (ms ++ t ∷ []))
added-last t ms h = (unplaced (monomial_of t) 0 (polynomial_of ms) h).0 ∙ ap (λ us. Some us) (sym (map-append monomial_of ms (t ∷ [])))

pub taken-nothing : (t : StoredMonomial) (ms : List StoredMonomial) → position_from (λ m. same_atoms t.atoms.items m.1) 0 (polynomial_of ms) ≡ None → taken (monomial_of t) (polynomial_of ms) ≡ None
taken-nothing t ms h = (unplaced (monomial_of t) 0 (polynomial_of ms) h).1

pub subtracted-last : (t : StoredMonomial) (ms : List StoredMonomial) → position_from (λ m. same_atoms t.atoms.items m.1) 0 (polynomial_of ms) ≡ None → subtracted (monomial_of t) (polynomial_of ms) ≡ negated_behind (monomial_of t) (polynomial_of ms)
subtracted-last t ms h = (unplaced (monomial_of t) 0 (polynomial_of ms) h).2

-- ---- whether two coefficients are equal
pub int_eq-same : (x y : ℤ) → x ≡ y → int_eq x y ≡ true
int_eq-same x y h = grind (arith, ints)

pub int_eq-other : (x y : ℤ) → (x ≡ y → ⊥) → int_eq x y ≡ false
int_eq-other x y h = grind (arith, ints)
