-- Arrays as sets of pairs: what an application reads, what a write and a fill leave.
use Rattle.std.proofs.Common.{◌≡◌, ◌≢◌, ◌⊎◌, inl, inr, ◌<◌, ◌≤◌, ℕ, zero, suc, ◌+◌, ℤ, pos, ◌+ℤ◌, ◌-ℤ◌, ◌≤ℤ◌, int_le, List, [], ◌∷◌, length, refl, sym, ◌∙◌, ap, subst, Bool, true, false, not, ◌||◌, nat_eq, arith, Some}
use Rattle.std.specs.Prelude.{slice_index_or, slice_get, slice_set, negsuc, int_lt, unsigned_abs}
use Rattle.std.specs.Ordering.{eq_by_cmp, int_eq}
use Rattle.std.specs.List.{filter}
use Rattle.std.proofs.lemmas.Int.{ints}
use Rattle.std.proofs.lemmas.Bool.Decides.{nat_tests}
use Rattle.std.proofs.lemmas.List.{get_or-set_same, get_or-set_other, length-set}
use Rattle.bk_val.specs.Value.{MathValue, int, elem, pair, set, values_of, value_cmp}
use Rattle.bk_val.specs.ValueType.{ValueType}
use Rattle.bk_val.specs.Sets.{has, set_of, overridden_of, begins_outside, apply_of, IsOnlyValue}
use Rattle.bk_val.specs.CmpLaws.{same_value, value_eq-self}
use Rattle.bk_val.proofs.Elements.{sorted_set_of, has-set_of, has-union_of, same_elements}
use Rattle.bk_val.proofs.Relations.{apply_of-some}
use Rattle.bk_form.specs.Table.{set_size}
use Rattle.bk_form.specs.Operators.{elements, set_value, numbers_from, elements_from, count_of, pairs_of}
use Rattle.bk_form.specs.Defined.{is_in_indices}
use Rattle.bk_form.specs.declared.arrays.ArrayDomain.{ArrayDomain}
use Rattle.bk_form.specs.declared.arrays.ArrayDomain.TheVariants.{Interval, Bool as OfBooleans, Set as OfElements}
use Rattle.bk_form.proofs.Members.{Has, has-then, has-if, Has-filter-then, Has-filter-if, Has-union_of, Has-set_of, list_of-values_of, pairs-then, pairs-if, both_ways, or-left, or-right, or-cases, and-both, and-true}
use Rattle.bk_gsl.proofs.States.{nat_eq-same, nat_eq-self, clash}
use Rattle.bk_dev.specs.Development.{Development}
use Rattle.bk_dev.specs.Layout.{index_count}
use Rattle.bk_code.specs.Step.{is_index}
use Rattle.bk_b0.specs.Places.{least_index}
use Rattle.bk_b0.specs.Kinds.{number_as, is_of_kind, index_type}
use Rattle.bk_sim.specs.Shown.{indices, paired}
use Rattle.bk_b0.proofs.Numbers.{eq-then, le-then, le-if}

-- ---- places in lists
Has-at : {A : Type 0} (xs : List A) (k : ℕ) (x : A) → slice_get xs k ≡ Some x → Has x xs
Has-at {A} [] k x h = absurd (cc)
Has-at {A} (y ∷ xs) zero x h = inl (cc)
Has-at {A} (y ∷ xs) (suc k) x h = inr (Has-at xs k x h)

paired-at : (t : ValueType) (is : List MathValue) (m : List ℤ) (k : ℕ) (i : MathValue) → slice_get is k ≡ Some i → k < length m → slice_get (paired t is m) k ≡ Some (pair i (number_as t (slice_index_or m k (pos 0))))
paired-at t [] m k i h l = absurd (cc)
paired-at t (x ∷ is) [] k i h l = absurd (omega (arith, l))
paired-at t (x ∷ is) (z ∷ m) zero i h l = let e : x ≡ i = cc in ap (λ v. Some (pair v (number_as t z))) e
paired-at t (x ∷ is) (z ∷ m) (suc k) i h l = paired-at t is m k i h (omega arith)

-- one of the pairs
record IsPaired (t : ValueType) (is : List MathValue) (m : List ℤ) (q : MathValue) : Type 0 where
  at : ℕ
  index : MathValue
  stands : slice_get is at ≡ Some index
  low : at < length m
  same : q ≡ pair index (number_as t (slice_index_or m at (pos 0)))

paired-from : (t : ValueType) (is : List MathValue) (m : List ℤ) (q : MathValue) → Has q (paired t is m) → IsPaired t is m q
paired-from t [] m q h = absurd h
paired-from t (x ∷ is) [] q h = absurd h
paired-from t (x ∷ is) (z ∷ m) q (inl h) = record { at = 0; index = x; stands = refl; low = omega arith; same = h }
paired-from t (x ∷ is) (z ∷ m) q (inr h) = let w = paired-from t is m q h in record { at = suc w.at; index = w.index; stands = w.stands; low = let l : w.at < length m = w.low in omega arith; same = w.same }

-- ---- indices
numbers-at : (z : ℤ) (n k : ℕ) → k < n → slice_get (numbers_from z n) k ≡ Some (int (z +ℤ pos k))
numbers-at z zero k l = absurd (omega arith)
numbers-at z (suc n) zero l = let e : z ≡ z +ℤ pos 0 = omega (arith, ints) in ap (λ y. Some (int y)) e
numbers-at z (suc n) (suc k) l = let e : z +ℤ pos 1 +ℤ pos k ≡ z +ℤ pos (suc k) = omega (arith, ints) in numbers-at (z +ℤ pos 1) n k (omega arith) ∙ ap (λ y. Some (int y)) e

numbers-below : (z : ℤ) (n k : ℕ) (v : MathValue) → slice_get (numbers_from z n) k ≡ Some v → k < n
numbers-below z zero k v h = absurd (cc)
numbers-below z (suc n) zero v h = omega arith
numbers-below z (suc n) (suc k) v h = let l = numbers-below (z +ℤ pos 1) n k v h in omega arith

elements-at : (s i n k : ℕ) → k < n → slice_get (elements_from s i n) k ≡ Some (elem s (i + k))
elements-at s i zero k l = absurd (omega arith)
elements-at s i (suc n) zero l = let e : i ≡ i + 0 = omega arith in ap (λ y. Some (elem s y)) e
elements-at s i (suc n) (suc k) l = let e : suc i + k ≡ i + suc k = omega arith in elements-at s (suc i) n k (omega arith) ∙ ap (λ y. Some (elem s y)) e

elements-below : (s i n k : ℕ) (v : MathValue) → slice_get (elements_from s i n) k ≡ Some v → k < n
elements-below s i zero k v h = absurd (cc)
elements-below s i (suc n) zero v h = omega arith
elements-below s i (suc n) (suc k) v h = let l = elements-below s (suc i) n k v h in omega arith

-- the index of the element in the k-th cell
abbrev pub index_at : ArrayDomain → ℕ → MathValue
index_at d k = number_as (index_type d) (least_index d +ℤ pos k)

pub indices-at : (dev : Development) (d : ArrayDomain) (k : ℕ) → k < index_count dev.table d → slice_get (indices dev d) k ≡ Some (index_at d k)
indices-at dev (Interval low high) k l = numbers-at low (index_count dev.table (Interval low high)) k l
indices-at dev OfBooleans zero l = refl
indices-at dev OfBooleans (suc zero) l = refl
indices-at dev OfBooleans (suc (suc k)) l = absurd (omega arith)
indices-at dev (OfElements n) k l = elements-at n 0 (set_size dev.table n) k l

indices-below : (dev : Development) (d : ArrayDomain) (k : ℕ) (v : MathValue) → slice_get (indices dev d) k ≡ Some v → k < index_count dev.table d
indices-below dev (Interval low high) k v h = numbers-below low (index_count dev.table (Interval low high)) k v h
indices-below dev OfBooleans zero v h = omega arith
indices-below dev OfBooleans (suc zero) v h = omega arith
indices-below dev OfBooleans (suc (suc k)) v h = absurd (cc)
indices-below dev (OfElements n) k v h = elements-below n 0 (set_size dev.table n) k v h

indices-differ : (dev : Development) (d : ArrayDomain) (j k : ℕ) → j < index_count dev.table d → k < index_count dev.table d → index_at d j ≡ index_at d k → j ≡ k
indices-differ dev (Interval low high) j k l m h = let e : low +ℤ pos j ≡ low +ℤ pos k = cc in omega (arith, ints, e)
indices-differ dev OfBooleans zero zero l m h = refl
indices-differ dev OfBooleans zero (suc zero) l m h = absurd (cc)
indices-differ dev OfBooleans (suc zero) zero l m h = absurd (cc)
indices-differ dev OfBooleans (suc zero) (suc zero) l m h = refl
indices-differ dev OfBooleans (suc (suc j)) k l m h = absurd (omega arith)
indices-differ dev OfBooleans j (suc (suc k)) l m h = absurd (omega arith)
indices-differ dev (OfElements n) j k l m h = let e : 0 + j ≡ 0 + k = cc in omega (arith, e)

-- ---- the place of an index
-- the number of an index stands for that of the k-th cell
pub record HasPlace (dev : Development) (d : ArrayDomain) (z : ℤ) : Type 0 where
  pub place : ℕ
  pub low : place < index_count dev.table d
  pub is : z ≡ least_index d +ℤ pos place

interval-place : (low high z n : ℤ) → n ≡ (high +ℤ pos 1) -ℤ low → low ≤ℤ z → z ≤ℤ high → (k : ℕ) × (k < count_of n) × (z ≡ low +ℤ pos k)
interval-place low high z (negsuc n) e h l = absurd (omega (arith, ints))
interval-place low high z (pos n) e h l = by_gap (z -ℤ low) refl
  where
    by_gap : (g : ℤ) → g ≡ z -ℤ low → (k : ℕ) × (k < n) × (z ≡ low +ℤ pos k)
    by_gap (negsuc g) f = absurd (omega (arith, ints))
    by_gap (pos k) f = (k, omega (arith, ints), omega (arith, ints))

pub place-of : (dev : Development) (d : ArrayDomain) (z : ℤ) → is_of_kind dev (index_type d) z ≡ true → is_in_indices d (number_as (index_type d) z) ≡ true → HasPlace dev d z
place-of dev (Interval low high) z kind h =
    let w = and-both (int_le low z) (int_le z high) h in
    let p = interval-place low high z ((high +ℤ pos 1) -ℤ low) refl (le-then low z w.0) (le-then z high w.1) in
    record { place = p.0; low = p.1; is = p.2 }
place-of dev OfBooleans z kind h = elim (or-cases (int_eq z (pos 0)) (int_eq z (pos 1)) kind) [
  | inl e ↦ record { place = 0; low = omega arith; is = eq-then z (pos 0) e }
  | inr e ↦ record { place = 1; low = omega arith; is = eq-then z (pos 1) e }
]
place-of dev (OfElements n) (pos i) kind h = record { place = i; low = grind (arith, nat_tests); is = let e : i ≡ 0 + i = omega arith in ap pos e }
place-of dev (OfElements n) (negsuc i) kind h = absurd (cc)

pub place-inside : (low : ℤ) (count k : ℕ) → k < count → is_index low count (low +ℤ pos k) ≡ true
place-inside low count k l =
    let first : int_le low (low +ℤ pos k) ≡ true = le-if low (low +ℤ pos k) (omega (arith, ints)) in
    let second : int_lt (low +ℤ pos k) (low +ℤ pos count) ≡ true = grind (arith, ints) in
    and-true (int_le low (low +ℤ pos k)) (int_lt (low +ℤ pos k) (low +ℤ pos count)) first second

pub place-gap : (low : ℤ) (k : ℕ) → unsigned_abs ((low +ℤ pos k) -ℤ low) ≡ k
place-gap low k = let e : (low +ℤ pos k) -ℤ low ≡ pos k = omega (arith, ints) in ap unsigned_abs e

-- ---- the pairs of an array's cells
set-same : (xs ys : List MathValue) → ((q : MathValue) → has xs q ≡ has ys q) → set_value xs ≡ set_value ys
set-same xs ys h = ap (λ l. set (values_of l)) (same_elements (set_of xs) (set_of ys) (sorted_set_of xs) (sorted_set_of ys) (λ q. has-set_of xs q ∙ h q ∙ sym (has-set_of ys q)))

elements-of : (xs : List MathValue) → elements (set_value xs) ≡ set_of xs
elements-of xs = list_of-values_of (set_of xs)

module _ (dev : Development) (d : ArrayDomain) (t : ValueType) where
  abbrev count : ℕ
  count = index_count dev.table d

  abbrev pairs : List ℤ → List MathValue
  pairs m = paired t (indices dev d) m

  abbrev nth : List ℤ → ℕ → MathValue
  nth m k = pair (index_at d k) (number_as t (slice_index_or m k (pos 0)))

  Has-nth : (m : List ℤ) (k : ℕ) → k < count → k < length m → Has (nth m k) (pairs m)
  Has-nth m k l long = Has-at (pairs m) k (nth m k) (paired-at t (indices dev d) m k (index_at d k) (indices-at dev d k l) long)

  pub nth-from : (m : List ℤ) (q : MathValue) → Has q (pairs m) → (k : ℕ) × (k < count) × (k < length m) × (q ≡ nth m k)
  nth-from m q h =
      let w = paired-from t (indices dev d) m q h in
      let low = indices-below dev d w.at w.index w.stands in
      let same : Some w.index ≡ Some (index_at d w.at) = sym w.stands ∙ indices-at dev d w.at low in
      let one : w.index ≡ index_at d w.at = cc in
      (w.at, low, w.low, w.same ∙ ap (λ i. pair i (number_as t (slice_index_or m w.at (pos 0)))) one)

  -- reading
  pub array-read : (m : List ℤ) (k : ℕ) → k < count → k < length m → apply_of (elements (set_value (pairs m))) (index_at d k) ≡ Some (number_as t (slice_index_or m k (pos 0)))
  array-read m k l long =
      let v = number_as t (slice_index_or m k (pos 0)) in
      let only : (z : MathValue) → has (set_of (pairs m)) (pair (index_at d k) z) ≡ true → z ≡ v =
      λ z h.
      let w = nth-from m (pair (index_at d k) z) (Has-set_of (pair (index_at d k) z) (pairs m) (has-then (pair (index_at d k) z) (set_of (pairs m)) h)) in
      let whole : pair (index_at d k) z ≡ nth m w.0 = w.3 in
      let first : index_at d k ≡ index_at d w.0 = cc in
      let second : z ≡ number_as t (slice_index_or m w.0 (pos 0)) = cc in
      let same : k ≡ w.0 = indices-differ dev d k w.0 l w.1 first in
      second ∙ ap (λ n. number_as t (slice_index_or m n (pos 0))) (sym same) in
      let value : IsOnlyValue (set_of (pairs m)) (index_at d k) v = record { starts = has-set_of (pairs m) (nth m k) ∙ has-if (nth m k) (pairs m) (Has-nth m k l long); only = only } in
      ap (λ f. apply_of f (index_at d k)) (elements-of (pairs m)) ∙ (apply_of-some (set_of (pairs m)) (index_at d k) v (sorted_set_of (pairs m))).1 value

  -- writing
  module _ (m : List ℤ) (k : ℕ) (z : ℤ) (l : k < count) (long : k < length m) where
    abbrev next : List ℤ
    next = slice_set m k z

    abbrev written : MathValue
    written = pair (index_at d k) (number_as t z)

    abbrev one : List MathValue
    one = written ∷ []

    abbrev kept : List MathValue
    kept = filter (begins_outside one) (set_of (pairs m))

    next-here : nth next k ≡ written
    next-here = ap (λ n. pair (index_at d k) (number_as t n)) (get_or-set_same m k z (pos 0) long)

    next-there : (j : ℕ) → j ≢ k → nth next j ≡ nth m j
    next-there j n = ap (λ n. pair (index_at d j) (number_as t n)) (get_or-set_other m k j z (pos 0) n)

    next-long : (j : ℕ) → j < length m → j < length next
    next-long j h = subst (λ n. j < n) (sym (length-set m k z)) h

    -- a pair that begins outside is at another place
    outside-then : (j : ℕ) → begins_outside one (nth m j) ≡ true → j ≢ k
    outside-then j h e =
        let self : eq_by_cmp value_cmp (index_at d j) (index_at d k) ≡ true = subst (λ n. eq_by_cmp value_cmp (index_at d j) (index_at d n) ≡ true) e (value_eq-self (index_at d j)) in
        let no : begins_outside one (nth m j) ≡ false = ap (λ b. not (b || false)) self in
        clash (begins_outside one (nth m j)) h no

    outside-if : (j : ℕ) → j < count → j ≢ k → begins_outside one (nth m j) ≡ true
    outside-if j h n = by_test (eq_by_cmp value_cmp (index_at d j) (index_at d k)) refl
      where
        by_test : (b : Bool) → eq_by_cmp value_cmp (index_at d j) (index_at d k) ≡ b → not (b || false) ≡ true
        by_test true e = absurd (n (indices-differ dev d j k h l (same_value (index_at d j) (index_at d k) e)))
        by_test false e = refl

    to-next : (q : MathValue) → Has q kept ⊎ Has q one → Has q (pairs next)
    to-next q (inl h) =
        let f = Has-filter-then (begins_outside one) q (set_of (pairs m)) h in
        let w = nth-from m q (Has-set_of q (pairs m) f.0) in
        let apart = outside-then w.0 (subst (λ v. begins_outside one v ≡ true) w.3 f.1) in
        subst (λ v. Has v (pairs next)) (next-there w.0 apart ∙ sym w.3) (Has-nth next w.0 w.1 (next-long w.0 w.2))
    to-next q (inr (inl h)) = subst (λ v. Has v (pairs next)) (next-here ∙ sym h) (Has-nth next k l (next-long k long))
    to-next q (inr (inr h)) = absurd h

    from-next : (q : MathValue) → Has q (pairs next) → (has kept q || has one q) ≡ true
    from-next q h = let w = nth-from next q h in by_test w.0 w.1 w.2 w.3 (nat_eq w.0 k) refl
      where
        by_test : (j : ℕ) → j < count → j < length next → q ≡ nth next j → (b : Bool) → nat_eq j k ≡ b → (has kept q || has one q) ≡ true
        by_test j low in_next is true e = or-right (has kept q) (has one q) (has-if q one (inl (is ∙ ap (nth next) (nat_eq-same j k e) ∙ next-here)))
        by_test j low in_next is false e =
            let n : j ≢ k = λ same. clash (nat_eq j k) (subst (λ x. nat_eq j x ≡ true) same (nat_eq-self j)) e in
            let there : q ≡ nth m j = is ∙ next-there j n in
            let in_old : j < length m = subst (λ x. j < x) (length-set m k z) in_next in
            let old : Has q (set_of (pairs m)) = has-then q (set_of (pairs m)) (has-set_of (pairs m) q ∙ has-if q (pairs m) (subst (λ v. Has v (pairs m)) (sym there) (Has-nth m j low in_old))) in
            or-left (has kept q) (has one q) (has-if q kept (Has-filter-if (begins_outside one) q (set_of (pairs m)) old (subst (λ v. begins_outside one v ≡ true) (sym there) (outside-if j low n))))

    pub array-written : set_value (overridden_of (elements (set_value (pairs m))) (elements (set_value one))) ≡ set_value (pairs next)
    array-written =
        let alike : (q : MathValue) → has (overridden_of (set_of (pairs m)) one) q ≡ has (pairs next) q =
        λ q. both_ways (has (overridden_of (set_of (pairs m)) one) q) (has (pairs next) q)
        (λ h. has-if q (pairs next) (to-next q (Has-union_of q kept one (has-then q (overridden_of (set_of (pairs m)) one) h))))
        (λ h. has-union_of kept one q ∙ from-next q (has-then q (pairs next) h)) in
        ap (λ r. set_value (overridden_of r one)) (elements-of (pairs m)) ∙ set-same (overridden_of (set_of (pairs m)) one) (pairs next) alike

  -- filling
  pub array-filled : (m : List ℤ) (z : ℤ) → count ≤ length m → ((k : ℕ) → k < count → slice_index_or m k (pos 0) ≡ z) → set_value (pairs_of (elements (set_value (indices dev d))) (elements (set_value (number_as t z ∷ [])))) ≡ set_value (pairs m)
  array-filled m z long all =
      let v = number_as t z in
      let rows = pairs_of (set_of (indices dev d)) (v ∷ []) in
      let alike : (q : MathValue) → has rows q ≡ has (pairs m) q =
      λ q. both_ways (has rows q) (has (pairs m) q)
      (λ h. let w = pairs-then q (set_of (indices dev d)) (v ∷ []) (has-then q rows h) in has-if q (pairs m) (into q w.0 w.1 (Has-set_of w.0 (indices dev d) w.2) w.3 w.4))
      (λ h. let w = nth-from m q (has-then q (pairs m) h) in
      let n : number_as t (slice_index_or m w.0 (pos 0)) ≡ v = ap (number_as t) (all w.0 w.1) in
      let there : Has (index_at d w.0) (set_of (indices dev d)) = has-then (index_at d w.0) (set_of (indices dev d)) (has-set_of (indices dev d) (index_at d w.0) ∙ has-if (index_at d w.0) (indices dev d) (Has-at (indices dev d) w.0 (index_at d w.0) (indices-at dev d w.0 w.1))) in
      has-if q rows (subst (λ x. Has x rows) (sym (w.3 ∙ ap (pair (index_at d w.0)) n)) (pairs-if (index_at d w.0) v (set_of (indices dev d)) (v ∷ []) there (inl refl)))) in
      ap (λ r. set_value (pairs_of r (v ∷ []))) (elements-of (indices dev d)) ∙ set-same rows (pairs m) alike
    where
      Has-place : (xs : List MathValue) (x : MathValue) → Has x xs → (k : ℕ) × (slice_get xs k ≡ Some x)
      Has-place [] x h = absurd h
      Has-place (y ∷ xs) x (inl h) = (0, ap Some (sym h))
      Has-place (y ∷ xs) x (inr h) = let w = Has-place xs x h in (suc w.0, w.1)

      into : (q x y : MathValue) → Has x (indices dev d) → Has y (number_as t z ∷ []) → q ≡ pair x y → Has q (pairs m)
      into q x y h (inl e) is =
          let w = Has-place (indices dev d) x h in
          let low = indices-below dev d w.0 x w.1 in
          let in_m : w.0 < length m = omega (arith, low, long) in
          let same : Some x ≡ Some (index_at d w.0) = sym w.1 ∙ indices-at dev d w.0 low in
          let first : x ≡ index_at d w.0 = cc in
          let second : y ≡ number_as t (slice_index_or m w.0 (pos 0)) = e ∙ ap (number_as t) (sym (all w.0 low)) in
          let whole : nth m w.0 ≡ q = (λ i. pair (sym first i) (sym second i)) ∙ sym is in
          subst (λ v. Has v (pairs m)) whole (Has-nth m w.0 low in_m)
      into q x y h (inr e) is = absurd e
