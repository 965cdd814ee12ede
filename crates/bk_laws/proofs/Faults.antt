-- What is wrong with picks, told by one search through them.
use Rattle.std.proofs.Common.{◌≡◌, ◌⊎◌, inl, inr, ℕ, zero, suc, ◌+◌, ◌-◌, ◌^◌, ◌<◌, min, List, [], ◌∷◌, length, refl, sym, ◌∙◌, ap, subst, Bool, true, false, not, ◌&&◌, ◌||◌, cond, nat_eq, arith}
use Rattle.std.specs.Prelude.{Option, Some, None}
use Rattle.std.proofs.lemmas.Bool.Decides.{nat_tests}
use Rattle.bk_form.specs.Formula.{Formula}
use Rattle.bk_laws.specs.Patterns.{is_empty_set}
use Rattle.bk_laws.specs.Rows.{Row, built, pick_at, wants_empty, IsWrongPick, IsFirstWrong, IsFault, fit_from, fits, instance_of_row}
use Rattle.bk_laws.specs.Tables.{wrong_from, fault_of}

nat-same : (m n : ℕ) → nat_eq m n ≡ true → m ≡ n
nat-same m n h = grind (arith, nat_tests)

same-nat : (m n : ℕ) → m ≡ n → nat_eq m n ≡ true
same-nat m n h = grind (arith, nat_tests)

-- the j-th pick of those that are left is wrong
record IsWrongAt (row : Row) (k : ℕ) (picks : List Formula) (j : ℕ) : Type 0 where
  stands : j < length picks
  wanted : wants_empty row (k + j) ≡ true
  is_other : is_empty_set (pick_at picks j) ≡ false

-- from the head to the rest, and back
to-rest : (row : Row) (k : ℕ) (p : Formula) (ps : List Formula) (j : ℕ) → IsWrongAt row k (p ∷ ps) (suc j) → IsWrongAt row (k + 1) ps j
to-rest row k p ps j w = record { stands = let s = w.stands in omega arith; wanted = subst (λ n. wants_empty row n ≡ true) (moved k j) w.wanted; is_other = w.is_other }
  where
    moved : (k j : ℕ) → k + suc j ≡ (k + 1) + j
    moved k j = omega arith

from-rest : (row : Row) (k : ℕ) (p : Formula) (ps : List Formula) (j : ℕ) → IsWrongAt row (k + 1) ps j → IsWrongAt row k (p ∷ ps) (suc j)
from-rest row k p ps j w = record { stands = let s = w.stands in omega arith; wanted = subst (λ n. wants_empty row n ≡ true) (moved k j) w.wanted; is_other = w.is_other }
  where
    moved : (k j : ℕ) → (k + 1) + j ≡ k + suc j
    moved k j = omega arith

-- the head is not wrong where the test says so
not-head : (row : Row) (k : ℕ) (p : Formula) (ps : List Formula) → (wants_empty row k && not (is_empty_set p)) ≡ false → IsWrongAt row k (p ∷ ps) zero → ⊥
not-head row k p ps h w =
    let e : k + 0 ≡ k = omega arith in
    let wanted : wants_empty row k ≡ true = subst (λ n. wants_empty row n ≡ true) e w.wanted in
    let other = w.is_other in
    clash (wants_empty row k) (is_empty_set p) wanted other h
  where
    clash : (a b : Bool) → a ≡ true → b ≡ false → (a && not b) ≡ false → ⊥
    clash true false h k l = cc
    clash true true h k l = cc
    clash false b h k l = cc

-- none of the picks is wrong
passes : (a b : Bool) → (a && not b) ≡ false → (not a || b) ≡ true
passes true true g = refl
passes true false g = absurd (cc)
passes false b g = refl

both-true : (a b : Bool) → a ≡ true → b ≡ true → (a && b) ≡ true
both-true true true h k = refl
both-true true false h k = absurd (cc)
both-true false b h k = absurd (cc)

fit-then : (row : Row) (k : ℕ) (picks : List Formula) → wrong_from row k picks ≡ None → (fit_from row k picks ≡ true) × ((j : ℕ) → IsWrongAt row k picks j → ⊥)
fit-then row k [] h = (refl, λ j w. let s = w.stands in absurd (omega arith))
fit-then row k (p ∷ ps) h = by_test (fit-then row (k + 1) ps) (wants_empty row k && not (is_empty_set p)) refl h
  where
    each : (wants_empty row k && not (is_empty_set p)) ≡ false → ((j : ℕ) → IsWrongAt row (k + 1) ps j → ⊥) → (j : ℕ) → IsWrongAt row k (p ∷ ps) j → ⊥
    each g rest zero w = not-head row k p ps g w
    each g rest (suc j) w = rest j (to-rest row k p ps j w)

    by_test : (wrong_from row (k + 1) ps ≡ None → (fit_from row (k + 1) ps ≡ true) × ((j : ℕ) → IsWrongAt row (k + 1) ps j → ⊥)) → (b : Bool) → (wants_empty row k && not (is_empty_set p)) ≡ b → cond b (Some (k + 1)) (wrong_from row (k + 1) ps) ≡ None → (fit_from row k (p ∷ ps) ≡ true) × ((j : ℕ) → IsWrongAt row k (p ∷ ps) j → ⊥)
    by_test on true g h = absurd (cc)
    by_test on false g h =
        let rest = on h in
        (both-true (not (wants_empty row k) || is_empty_set p) (fit_from row (k + 1) ps) (passes (wants_empty row k) (is_empty_set p) g) rest.0, each g rest.1)

-- the first of the picks that is wrong
record IsFirstAt (row : Row) (k : ℕ) (picks : List Formula) (n : ℕ) : Type 0 where
  place : ℕ
  number : n ≡ suc (k + place)
  wrong : IsWrongAt row k picks place
  first : (i : ℕ) → i < place → IsWrongAt row k picks i → ⊥

some-number : (m n : ℕ) → Some m ≡ Some n → m ≡ n
some-number m n h = cc

wrong-then : (row : Row) (k : ℕ) (picks : List Formula) (n : ℕ) → wrong_from row k picks ≡ Some n → (fit_from row k picks ≡ false) × IsFirstAt row k picks n
wrong-then row k [] n h = absurd (cc)
wrong-then row k (p ∷ ps) n h = by_test (wrong-then row (k + 1) ps n) (wants_empty row k && not (is_empty_set p)) refl h
  where
    fails : (a b : Bool) → (a && not b) ≡ true → (a ≡ true) × (b ≡ false)
    fails true true g = absurd (cc)
    fails true false g = (refl, refl)
    fails false b g = absurd (cc)

    none-pass : (a b c : Bool) → a ≡ true → b ≡ false → ((not a || b) && c) ≡ false
    none-pass true false c h k = refl
    none-pass true true c h k = absurd (cc)
    none-pass false b c h k = absurd (cc)

    rest-fails : (a b : Bool) → b ≡ false → (a && b) ≡ false
    rest-fails true b h = h
    rest-fails false b h = refl

    earlier : (wants_empty row k && not (is_empty_set p)) ≡ false → (place : ℕ) → ((i : ℕ) → i < place → IsWrongAt row (k + 1) ps i → ⊥) → (i : ℕ) → i < suc place → IsWrongAt row k (p ∷ ps) i → ⊥
    earlier g place rest zero l w = not-head row k p ps g w
    earlier g place rest (suc i) l w = rest i (omega arith) (to-rest row k p ps i w)

    by_test : (wrong_from row (k + 1) ps ≡ Some n → (fit_from row (k + 1) ps ≡ false) × IsFirstAt row (k + 1) ps n) → (b : Bool) → (wants_empty row k && not (is_empty_set p)) ≡ b → cond b (Some (k + 1)) (wrong_from row (k + 1) ps) ≡ Some n → (fit_from row k (p ∷ ps) ≡ false) × IsFirstAt row k (p ∷ ps) n
    by_test on true g h =
        let m = some-number (k + 1) n h in
        let q = fails (wants_empty row k) (is_empty_set p) g in
        let e : k ≡ k + 0 = omega arith in (
          none-pass (wants_empty row k) (is_empty_set p) (fit_from row (k + 1) ps) q.0 q.1,
          record { place = 0; number = omega (arith, m); wrong = record { stands = omega arith; wanted = subst (λ (i : ℕ). wants_empty row i ≡ true) e q.0; is_other = q.1 }; first = λ i l w. absurd (omega arith) },
        )
    by_test on false g h =
        let rest = on h in
        let r = rest.1 in
        let e = r.number in (
          rest-fails (not (wants_empty row k) || is_empty_set p) (fit_from row (k + 1) ps) rest.0,
          record { place = suc r.place; number = omega (arith, e); wrong = from-rest row k p ps r.place r.wrong; first = earlier g r.place r.first },
        )

-- ---- numbers from 1
to-at : (row : Row) (picks : List Formula) (k : ℕ) → IsWrongPick row picks k → IsWrongAt row 0 picks (k - 1)
to-at row picks k w =
    let a = w.from_one in
    let b = w.stands in
    let e : k - 1 ≡ 0 + (k - 1) = omega arith in
    record { stands = omega arith; wanted = subst (λ (n : ℕ). wants_empty row n ≡ true) e w.wanted; is_other = w.is_other }

to-pick : (row : Row) (picks : List Formula) (j : ℕ) → IsWrongAt row 0 picks j → IsWrongPick row picks (suc j)
to-pick row picks j w =
    let a = w.stands in
    let e : 0 + j ≡ suc j - 1 = omega arith in
    let d : j ≡ suc j - 1 = omega arith in
    record {
      from_one = omega arith;
      stands = omega arith;
      wanted = subst (λ (n : ℕ). wants_empty row n ≡ true) e w.wanted;
      is_other = subst (λ (n : ℕ). is_empty_set (pick_at picks n) ≡ false) d w.is_other;
    }

first-is-fault : (row : Row) (picks : List Formula) (n : ℕ) → length picks ≡ row.letters → IsFirstAt row 0 picks n → IsFirstWrong row picks n
first-is-fault row picks n count f =
    let e : suc f.place ≡ n = let k = f.number in omega (arith, k) in
    record { count = count; wrong = subst (λ (m : ℕ). IsWrongPick row picks m) e (to-pick row picks f.place f.wrong); first = λ j l w. f.first (j - 1) (let a = w.from_one in let k = f.number in omega (arith, k)) (to-at row picks j w) }

-- there is one first
one-first : (row : Row) (picks : List Formula) (m n : ℕ) → IsFirstWrong row picks m → IsFirstWrong row picks n → m ≡ n
one-first row picks m n p q = elim (compared m n) [
  | inl e ↦ e
  | inr d ↦ elim d [ inl l ↦ absurd (q.first m l p.wrong) | inr g ↦ absurd (p.first n g q.wrong) ]
]
  where
    compared : (m n : ℕ) → (m ≡ n) ⊎ ((m < n) ⊎ (n < m))
    compared m n = grind arith

-- what the search answers is what is wrong
module _ (row : Row) (picks : List Formula) where
  other-fault : (b : Bool) → nat_eq (length picks) row.letters ≡ b → (k : ℕ) → cond b (wrong_from row 0 picks) (Some (min (length picks) (2 ^ 32 - 1))) ≡ Some k → IsFault row picks k
  other-fault true g k h = inr (first-is-fault row picks k (nat-same (length picks) row.letters g) (wrong-then row 0 picks k h).1)
  other-fault false g k h = inl (record { other = λ e. let t = same-nat (length picks) row.letters e in cc; counted = sym (some-number (min (length picks) (2 ^ 32 - 1)) k h) })

  pub is-fault : (k : ℕ) → fault_of row picks ≡ Some k → IsFault row picks k
  is-fault k h = other-fault (nat_eq (length picks) row.letters) refl k h

  -- nothing is wrong, and the picks fit
  pub no-fault : fault_of row picks ≡ None → fits row picks ≡ true
  no-fault h = by_test (nat_eq (length picks) row.letters) h
    where
      by_test : (b : Bool) → cond b (wrong_from row 0 picks) (Some (min (length picks) (2 ^ 32 - 1))) ≡ None → (b && fit_from row 0 picks) ≡ true
      by_test true h = (fit-then row 0 picks h).0
      by_test false h = absurd (cc)

  -- where something is wrong they don't fit
  fault-unfit : (k : ℕ) → fault_of row picks ≡ Some k → fits row picks ≡ false
  fault-unfit k h = by_test (nat_eq (length picks) row.letters) h
    where
      by_test : (b : Bool) → cond b (wrong_from row 0 picks) (Some (min (length picks) (2 ^ 32 - 1))) ≡ Some k → (b && fit_from row 0 picks) ≡ false
      by_test true h = (wrong-then row 0 picks k h).0
      by_test false h = refl

  -- one thing is wrong at most, and the search finds it
  none-wrong : fault_of row picks ≡ None → (k : ℕ) → IsFault row picks k → ⊥
  none-wrong h k f = by_test (nat_eq (length picks) row.letters) refl h f
    where
      by_test : (b : Bool) → nat_eq (length picks) row.letters ≡ b → cond b (wrong_from row 0 picks) (Some (min (length picks) (2 ^ 32 - 1))) ≡ None → IsFault row picks k → ⊥
      by_test true g h (inl o) = o.other (nat-same (length picks) row.letters g)
      by_test true g h (inr w) = (fit-then row 0 picks h).1 (k - 1) (to-at row picks k w.wrong)
      by_test false g h f = cc

  pub finds-fault : (k : ℕ) → IsFault row picks k → fault_of row picks ≡ Some k
  finds-fault k f = by_search (fault_of row picks) refl
    where
      one-fault : (j : ℕ) → IsFault row picks j → IsFault row picks k → j ≡ k
      one-fault j (inl o) (inl p) = o.counted ∙ sym p.counted
      one-fault j (inl o) (inr w) = absurd (o.other w.count)
      one-fault j (inr w) (inl o) = absurd (o.other w.count)
      one-fault j (inr v) (inr w) = one-first row picks j k v w

      by_search : (o : Option ℕ) → fault_of row picks ≡ o → o ≡ Some k
      by_search None h = absurd (none-wrong h k f)
      by_search (Some j) h = ap Some (one-fault j (is-fault j h) f)

  -- so there is no instance
  pub no-instance : (k : ℕ) → IsFault row picks k → instance_of_row picks (Some row) ≡ None
  no-instance k f = ap (λ b. cond b (Some (built row (pick_at picks))) None) (fault-unfit k (finds-fault k f))
