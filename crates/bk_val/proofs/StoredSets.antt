-- Which lists are those of the elements of a set that can be held.
use Rattle.std.proofs.Common.{◌≡◌, ℕ, ◌≤◌, Bool, true, List, [], ◌∷◌, take, length, refl, ap}
use Rattle.std.proofs.lemmas.Bool.{and_parts, and_from, cond_both}
use Rattle.std.proofs.lemmas.List.{take_all}
use Rattle.std.proofs.lemmas.List.Kept.{IsStrictlySortedBy-filter}
use Rattle.std.specs.declared.cmp.Ordering.{Ordering}
use Rattle.std.specs.declared.cmp.Ordering.TheVariants.{Less, Equal, Greater}
use Rattle.std.specs.List.{AllByRecursion, filter}
use Rattle.std.specs.List.Sorted.{IsStrictlySortedBy}
use Rattle.bk_val.specs.Value.{MathValue, value_cmp, values_of, is_below, rises_from, is_rising, is_storable, are_storable, IsStrictlySorted, IsStoredSet}
use Rattle.bk_val.specs.Sets.{union_of, set_of}
use Rattle.bk_val.proofs.SortedLists.{Below, below_all, sorted_union_of, all_union_of}
use Rattle.bk_val.proofs.Elements.{all_set_of, sorted_set_of}

-- ---- single values
abbrev pub IsStorable : MathValue → Type 0
IsStorable v = is_storable v ≡ true

-- ---- lists of values
pub each_storable : (xs : List MathValue) → are_storable (values_of xs) ≡ true → AllByRecursion IsStorable xs
each_storable [] h = tt
each_storable (x ∷ xs) h = let p = and_parts (is_storable x) (are_storable (values_of xs)) h in (p.0, each_storable xs p.1)

pub all_storable : (xs : List MathValue) → AllByRecursion IsStorable xs → are_storable (values_of xs) ≡ true
all_storable [] h = refl
all_storable (x ∷ xs) h = and_from _ _ h.0 (all_storable xs h.1)

less_from_below : (o : Ordering) → is_below o ≡ true → o ≡ Less
less_from_below Less h = refl
less_from_below Equal h = cc
less_from_below Greater h = cc

rises-Below : (x : MathValue) (ys : List MathValue) → rises_from x (values_of ys) ≡ true → Below x ys × IsStrictlySorted ys
unfolding IsStrictlySortedBy
rises-Below x [] h = (tt, tt)
rises-Below x (y ∷ ys) h =
    let p = and_parts (is_below (value_cmp x y)) (rises_from y (values_of ys)) h in
    let rest = rises-Below y ys p.1 in
    (below_all x y ys (less_from_below _ p.0) rest.0, rest)

pub sorted_from_rising : (xs : List MathValue) → is_rising (values_of xs) ≡ true → IsStrictlySorted xs
unfolding IsStrictlySortedBy
sorted_from_rising [] h = tt
sorted_from_rising (x ∷ xs) h = rises-Below x xs h

rises-sorted : (x : MathValue) (ys : List MathValue) → Below x ys → IsStrictlySorted ys → rises_from x (values_of ys) ≡ true
unfolding IsStrictlySortedBy
rises-sorted x [] a s = refl
rises-sorted x (y ∷ ys) a s = and_from _ _ (ap is_below a.0) (rises-sorted y ys s.0 s.1)

pub rising_from_sorted : (xs : List MathValue) → IsStrictlySorted xs → is_rising (values_of xs) ≡ true
unfolding IsStrictlySortedBy
rising_from_sorted [] s = refl
rising_from_sorted (x ∷ xs) s = rises-sorted x xs s.0 s.1

-- ---- sets
pub stored_set : (xs : List MathValue) → IsStrictlySorted xs → AllByRecursion IsStorable xs → IsStoredSet xs
stored_set xs s a = and_from _ _ (all_storable xs a) (rising_from_sorted xs s)

pub stored_set-sorted : (xs : List MathValue) → IsStoredSet xs → IsStrictlySorted xs
stored_set-sorted xs h = sorted_from_rising xs (and_parts (are_storable (values_of xs)) (is_rising (values_of xs)) h).1

pub stored_set-each : (xs : List MathValue) → IsStoredSet xs → AllByRecursion IsStorable xs
stored_set-each xs h = each_storable xs (and_parts (are_storable (values_of xs)) (is_rising (values_of xs)) h).0

pub stored_set-union_of : (xs ys : List MathValue) → IsStoredSet xs → IsStoredSet ys → IsStoredSet (union_of xs ys)
stored_set-union_of xs ys h k =
    stored_set _ (sorted_union_of xs ys (stored_set-sorted xs h) (stored_set-sorted ys k)) (all_union_of IsStorable xs ys (stored_set-each xs h) (stored_set-each ys k))

pub stored_set-set_of : (xs : List MathValue) → are_storable (values_of xs) ≡ true → IsStoredSet (set_of xs)
stored_set-set_of xs h = stored_set _ (sorted_set_of xs) (all_set_of IsStorable xs (each_storable xs h))

all_filter : (P : MathValue → Type 0) (p : MathValue → Bool) (xs : List MathValue) → AllByRecursion P xs → AllByRecursion P (filter p xs)
all_filter P p [] a = tt
all_filter P p (x ∷ xs) a = cond_both (p x) (x ∷ filter p xs) (filter p xs) (AllByRecursion P) (λ _. (a.0, all_filter P p xs a.1)) (λ _. all_filter P p xs a.1)

-- the elements that pass a test, when all have been looked at
pub stored_set-filter : (p : MathValue → Bool) (n : ℕ) (kept ys xs : List MathValue) → kept ≡ filter p (take n ys) → ys ≡ xs → length ys ≤ n → IsStoredSet xs → IsStoredSet kept
stored_set-filter p n kept ys xs e f h s =
    rw (e, take_all n ys h, f) (stored_set _ (IsStrictlySortedBy-filter value_cmp p xs (stored_set-sorted xs s)) (all_filter IsStorable p xs (stored_set-each xs s)))

-- a whole copy
pub stored_set-copy : (n : ℕ) (copies ys xs : List MathValue) → copies ≡ take n ys → ys ≡ xs → length ys ≤ n → IsStoredSet xs → IsStoredSet copies
stored_set-copy n copies ys xs e f h s = rw (e, take_all n ys h, f) s
