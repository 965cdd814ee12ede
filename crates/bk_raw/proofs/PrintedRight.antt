-- What only printed formulas have reads right: bound variables by their numbers, written types, typed and ranged binders.
use Rattle.std.proofs.Common.{◌≡◌, ℕ, zero, suc, ◌-◌, List, [], ◌∷◌, refl, ap, Bool, true, false, cond, ◌&&◌}
use Rattle.std.specs.Prelude.{Option, None, Some, slice_get, nat_le}
use Rattle.bk_val.specs.ValueType.{ValueType, enum_type, set_type}
use Rattle.bk_form.specs.Table.{Table, lists_type}
use Rattle.bk_form.specs.Formula.{Formula, named}
use Rattle.bk_form.specs.Role.{gives}
use Rattle.bk_form.proofs.Roles.{if_holds-gives}
use Rattle.bk_form.specs.declared.operator.Domain.TheVariants.{Enum}
use Rattle.bk_raw.specs.Trees.WrittenType.{WrittenType, written_integer, written_bool, written_set, written_power, written_product}
use Rattle.bk_raw.specs.declared.term.RawBound.{RawBound}
use Rattle.bk_raw.specs.Meaning.Names.{Names, Meaning, local, global, set_name, element_name, nothing, Sight, unseen, seen, found, pick, local_at, local_sight, bound_sight, Agree, MeaningAgrees}
use Rattle.bk_raw.specs.Meaning.Outcome.{ask_set}
use Rattle.bk_raw.specs.Meaning.Printed.{set_type_of, power_of, product_of, type_read, typed_empty, printed_bounds, with_place, RangeRead, printed_ranges}
use Rattle.bk_raw.specs.Meaning.RightReading.{Whenever}
use Rattle.bk_raw.proofs.Filled.{and-true}
use Rattle.bk_raw.proofs.Asks.{Right, ask_set-right, Of}
use Rattle.bk_raw.proofs.NamesRight.{IsRightSight, found-right}
use Rattle.bk_raw.proofs.BindersRight.{AreListed, Lists, AreRanges}

module _ (table : Table) where
  -- ---- $k
  abbrev IsRightLocal : List ValueType → ℕ → Option (Option ValueType) → Type 0
  IsRightLocal us i None = Unit {0}
  IsRightLocal us i (Some None) = Unit {0}
  IsRightLocal us i (Some (Some t)) = (slice_get us i ≡ Some t) × (lists_type table t ≡ true)

  later-local : (u : ValueType) (us : List ValueType) (i : ℕ) (o : Option (Option ValueType)) → IsRightLocal us i o → IsRightLocal (u ∷ us) (suc i) o
  later-local u us i None h = tt
  later-local u us i (Some None) h = tt
  later-local u us i (Some (Some t)) h = h

  pick-right : (m : Meaning) (us : List ValueType) (later : List ValueType → Type 0) (rest : ℕ → Option (Option ValueType)) → ((vs : List ValueType) → later vs → (i : ℕ) → IsRightLocal vs i (rest i)) → MeaningAgrees table us m later → (i : ℕ) → IsRightLocal us i (pick m i rest)
  pick-right (local None) [] later rest k h i = absurd h
  pick-right (local (Some t)) [] later rest k h i = absurd h
  pick-right (local None) (u ∷ us) later rest k h zero = tt
  pick-right (local None) (u ∷ us) later rest k h (suc i) = later-local u us i (rest i) (k us h i)
  pick-right (local (Some t)) (u ∷ us) later rest k h zero = (ap Some h.0, h.1)
  pick-right (local (Some t)) (u ∷ us) later rest k h (suc i) = later-local u us i (rest i) (k us h.2 i)
  pick-right (global n None) us later rest k h i = k us h i
  pick-right (global n (Some t)) us later rest k h i = k us h.2 i
  pick-right (set_name s) us later rest k h i = k us h.1 i
  pick-right (element_name s e) us later rest k h i = k us h.2 i
  pick-right nothing us later rest k h i = k us h i

  local-right : (names : Names) (us : List ValueType) → Agree table us names → (i : ℕ) → IsRightLocal us i (local_at names i)
  local-right [] us h i = tt
  local-right (n ∷ ns) us h i = pick-right n.meaning us (λ vs. Agree table vs ns) (local_at ns) (λ vs g j. local-right ns vs g j) h i

  sight-local : (us : List ValueType) (i : ℕ) (o : Option (Option ValueType)) → IsRightLocal us i o → IsRightSight table us (local_sight i o)
  sight-local us i None h = tt
  sight-local us i (Some None) h = tt
  sight-local us i (Some (Some t)) h = (rw (h.0, h.1) refl, h.1)

  chosen-sight : (us : List ValueType) (c : Bool) (s : Sight) → IsRightSight table us s → IsRightSight table us (cond c s unseen)
  chosen-sight us true s h = h
  chosen-sight us false s h = tt

  pub bound-right : (count : ℕ) (names : Names) (around : List ValueType) (k : ℕ) → Agree table around names → IsRightSight table around (bound_sight count names k)
  bound-right count names around k h =
      chosen-sight around (nat_le 1 k && nat_le k count) (local_sight (count - k) (local_at names (count - k))) (sight-local around (count - k) (local_at names (count - k)) (local-right names around h (count - k)))

  -- ---- types
  set-listed : (around : List ValueType) (s : Sight) → IsRightSight table around s → Whenever (Lists table) (set_type_of s)
  set-listed around (seen (named (Enum s)) t) h = (if_holds-gives (lists_type table (enum_type s)) (gives (set_type (enum_type s))) t h.0).0
  set-listed around _ h = tt

  power-listed : (o : Option ValueType) → Whenever (Lists table) o → Whenever (Lists table) (power_of o)
  power-listed None h = tt
  power-listed (Some t) h = h

  product-listed : (o p : Option ValueType) → Whenever (Lists table) o → Whenever (Lists table) p → Whenever (Lists table) (product_of o p)
  product-listed None p h k = tt
  product-listed (Some t) None h k = tt
  product-listed (Some t) (Some u) h k = and-true (lists_type table t) (lists_type table u) h k

  type-listed : (t : WrittenType) (names : Names) (around : List ValueType) → Agree table around names → Whenever (Lists table) (type_read names t)
  type-listed written_integer names around h = refl
  type-listed written_bool names around h = refl
  type-listed (written_set x) names around h = set-listed around (found 0 names x) (found-right table around x names h)
  type-listed (written_power t) names around h = power-listed (type_read names t) (type-listed t names around h)
  type-listed (written_product t u) names around h = product-listed (type_read names t) (type_read names u) (type-listed t names around h) (type-listed u names around h)

  empty-of : (around : List ValueType) (at : ℕ) (o : Option ValueType) → Whenever (Lists table) o → Right table around (typed_empty at o).outcome
  empty-of around at (Some (set_type t)) h = (rw h refl, h)
  empty-of around at _ h = tt

  pub empty-right : (around : List ValueType) (at : ℕ) (t : WrittenType) (names : Names) → Agree table around names → Right table around (typed_empty at (type_read names t)).outcome
  empty-right around at t names h = empty-of around at (type_read names t) (type-listed t names around h)

  -- ---- binders
  pub bounds-listed : (bs : List RawBound) (names : Names) (around : List ValueType) → Agree table around names → AreListed table (printed_bounds names bs)
  bounds-listed [] names around h = tt
  bounds-listed (b ∷ bs) names around h = (type-listed b.ty names around h, bounds-listed bs names around h)

  abbrev pub AreRightReads : List ValueType → List RangeRead → Type 0
  AreRightReads around [] = Unit {0}
  AreRightReads around (r ∷ rs) = Right table around r.reading.outcome × AreRightReads around rs

  placed-range : (around : List ValueType) (at : ℕ) (o : Option (Formula × ValueType)) → Whenever (λ p. Of table around p.0 (set_type p.1)) o → Whenever (λ r. Of table around r.0 (set_type r.1)) (with_place at o)
  placed-range around at None h = tt
  placed-range around at (Some d) h = h

  pub ranges-of-right : (around : List ValueType) (rs : List RangeRead) → AreRightReads around rs → AreRanges table around (printed_ranges rs)
  ranges-of-right around [] h = tt
  ranges-of-right around (r ∷ rs) h = (placed-range around r.at (ask_set r.place r.reading.outcome).answer (ask_set-right table around r.place r.reading.outcome h.0), ranges-of-right around rs h.1)
