-- What stands in lists and in sets.
use Rattle.std.proofs.Common.{◌≡◌, ◌⊎◌, inl, inr, ℕ, zero, suc, ◌+◌, ◌<◌, ◌≤◌, List, [], ◌∷◌, ◌++◌, map, refl, sym, ◌∙◌, ap, subst, Bool, true, false, cond, ◌&&◌, ◌||◌, arith, nat_eq, nat_lt}
use Rattle.std.specs.List.{filter, flat_map}
use Rattle.std.specs.Ordering.{eq_by_cmp}
use Rattle.std.proofs.lemmas.Bool.Decides.{nat_tests}
use Rattle.bk_val.specs.Value.{MathValue, int, bool, elem, pair, set, list_of, values_of, value_cmp}
use Rattle.bk_val.specs.Sets.{has, set_of, union_of}
use Rattle.bk_val.specs.CmpLaws.{same_value, value_eq-self}
use Rattle.bk_val.proofs.Elements.{has-set_of, has-union_of}
use Rattle.bk_form.specs.Operators.{is_element, set_value, pairs_of, is_pair_of, elements_from, named_value, is_in_named}
use Rattle.bk_form.specs.declared.operator.Domain.{Domain}
use Rattle.bk_form.specs.declared.operator.Domain.TheVariants.{Integer, Natural, Natural1, Bool as Booleans, Enum}

-- ---- truth values
pub both_ways : (a b : Bool) → (a ≡ true → b ≡ true) → (b ≡ true → a ≡ true) → a ≡ b
both_ways true b f g = sym (f refl)
both_ways false true f g = g refl
both_ways false false f g = refl

pub or-cases : (a b : Bool) → (a || b) ≡ true → (a ≡ true) ⊎ (b ≡ true)
or-cases true b h = inl refl
or-cases false b h = inr h

pub or-left : (a b : Bool) → a ≡ true → (a || b) ≡ true
or-left a b h = rw h

pub or-right : (a b : Bool) → b ≡ true → (a || b) ≡ true
or-right true b h = refl
or-right false b h = h

pub and-true : (a b : Bool) → a ≡ true → b ≡ true → (a && b) ≡ true
and-true a b h k = rw (h, k)

pub and-both : (a b : Bool) → (a && b) ≡ true → (a ≡ true) × (b ≡ true)
and-both true b h = (refl, h)
and-both false b h = absurd (cc)

-- ---- one of a list
abbrev pub Has : {A : Type 0} → A → List A → Type 0
Has x [] = ⊥
Has x (y ∷ ys) = (x ≡ y) ⊎ Has x ys

pub has-then : (v : MathValue) (vs : List MathValue) → has vs v ≡ true → Has v vs
has-then v [] h = absurd (cc)
has-then v (w ∷ ws) h = elim (or-cases (eq_by_cmp value_cmp v w) (has ws v) h) [ inl x ↦ inl (same_value v w x) | inr x ↦ inr (has-then v ws x) ]

pub has-if : (v : MathValue) (vs : List MathValue) → Has v vs → has vs v ≡ true
has-if v [] h = absurd h
has-if v (w ∷ ws) (inl h) = or-left (eq_by_cmp value_cmp v w) (has ws v) (subst (λ x. eq_by_cmp value_cmp v x ≡ true) h (value_eq-self v))
has-if v (w ∷ ws) (inr h) = or-right (eq_by_cmp value_cmp v w) (has ws v) (has-if v ws h)

pub Has-map-then : {A B : Type 0} (f : A → B) (y : B) (xs : List A) → Has y (map f xs) → (x : A) × Has x xs × (y ≡ f x)
Has-map-then f y [] h = absurd h
Has-map-then f y (x ∷ xs) (inl h) = (x, inl refl, h)
Has-map-then f y (x ∷ xs) (inr h) = let k = Has-map-then f y xs h in (k.0, inr k.1, k.2)

pub Has-map-if : {A B : Type 0} (f : A → B) (y : B) (xs : List A) (x : A) → Has x xs → y ≡ f x → Has y (map f xs)
Has-map-if f y [] x h e = absurd h
Has-map-if f y (z ∷ xs) x (inl h) e = inl (e ∙ ap f h)
Has-map-if f y (z ∷ xs) x (inr h) e = inr (Has-map-if f y xs x h e)

pub Has-filter-then : {A : Type 0} (p : A → Bool) (y : A) (xs : List A) → Has y (filter p xs) → Has y xs × (p y ≡ true)
Has-filter-then p y [] h = absurd h
Has-filter-then p y (x ∷ xs) h = by_test (Has-filter-then p y xs) (p x) refl h
  where
    by_test : (Has y (filter p xs) → Has y xs × (p y ≡ true)) → (b : Bool) → p x ≡ b → Has y (cond b (x ∷ filter p xs) (filter p xs)) → ((y ≡ x) ⊎ Has y xs) × (p y ≡ true)
    by_test on true e (inl k) = (inl k, ap p k ∙ e)
    by_test on true e (inr k) = let m = on k in (inr m.0, m.1)
    by_test on false e k = let m = on k in (inr m.0, m.1)

pub Has-filter-if : {A : Type 0} (p : A → Bool) (y : A) (xs : List A) → Has y xs → p y ≡ true → Has y (filter p xs)
Has-filter-if p y [] h e = absurd h
Has-filter-if p y (x ∷ xs) h e = by_test (λ k. Has-filter-if p y xs k e) (p x) refl h
  where
    by_test : (Has y xs → Has y (filter p xs)) → (b : Bool) → p x ≡ b → (y ≡ x) ⊎ Has y xs → Has y (cond b (x ∷ filter p xs) (filter p xs))
    by_test on true d (inl k) = inl k
    by_test on true d (inr k) = inr (on k)
    by_test on false d (inl k) = let q : true ≡ false = sym e ∙ ap p k ∙ d in absurd (cc)
    by_test on false d (inr k) = on k

pub Has-append-then : {A : Type 0} (x : A) (xs ys : List A) → Has x (xs ++ ys) → Has x xs ⊎ Has x ys
Has-append-then x [] ys h = inr h
Has-append-then x (y ∷ xs) ys (inl h) = inl (inl h)
Has-append-then x (y ∷ xs) ys (inr h) = elim (Has-append-then x xs ys h) [ inl k ↦ inl (inr k) | inr k ↦ inr k ]

pub Has-append-left : {A : Type 0} (x : A) (xs ys : List A) → Has x xs → Has x (xs ++ ys)
Has-append-left x [] ys h = absurd h
Has-append-left x (y ∷ xs) ys (inl h) = inl h
Has-append-left x (y ∷ xs) ys (inr h) = inr (Has-append-left x xs ys h)

pub Has-append-right : {A : Type 0} (x : A) (xs ys : List A) → Has x ys → Has x (xs ++ ys)
Has-append-right x [] ys h = h
Has-append-right x (y ∷ xs) ys h = inr (Has-append-right x xs ys h)

pub Has-flat_map-then : {A B : Type 0} (f : A → List B) (y : B) (xs : List A) → Has y (flat_map f xs) → (x : A) × Has x xs × Has y (f x)
Has-flat_map-then f y [] h = absurd h
Has-flat_map-then f y (x ∷ xs) h = elim (Has-append-then y (f x) (flat_map f xs) h) [ inl k ↦ (x, inl refl, k) | inr k ↦ let w = Has-flat_map-then f y xs k in (w.0, inr w.1, w.2) ]

pub Has-flat_map-if : {A B : Type 0} (f : A → List B) (y : B) (xs : List A) (x : A) → Has x xs → Has y (f x) → Has y (flat_map f xs)
Has-flat_map-if f y [] x h k = absurd h
Has-flat_map-if f y (z ∷ xs) x (inl h) k = Has-append-left y (f z) (flat_map f xs) (subst (λ w. Has y (f w)) h k)
Has-flat_map-if f y (z ∷ xs) x (inr h) k = Has-append-right y (f z) (flat_map f xs) (Has-flat_map-if f y xs x h k)

-- ---- sets
pub list_of-values_of : (xs : List MathValue) → list_of (values_of xs) ≡ xs
list_of-values_of [] = refl
list_of-values_of (x ∷ xs) = ap (λ l. x ∷ l) (list_of-values_of xs)

-- the elements of the set of some values are these values
pub element-set_value : (xs : List MathValue) (v : MathValue) → is_element v (set_value xs) ≡ has xs v
element-set_value xs v = ap (λ l. has l v) (list_of-values_of (set_of xs)) ∙ has-set_of xs v

pub Has-set_of : (v : MathValue) (xs : List MathValue) → Has v (set_of xs) → Has v xs
Has-set_of v xs h = has-then v xs (sym (has-set_of xs v) ∙ has-if v (set_of xs) h)

pub Has-union_of : (v : MathValue) (xs ys : List MathValue) → Has v (union_of xs ys) → Has v xs ⊎ Has v ys
Has-union_of v xs ys h = elim (or-cases (has xs v) (has ys v) (sym (has-union_of xs ys v) ∙ has-if v (union_of xs ys) h)) [ inl k ↦ inl (has-then v xs k) | inr k ↦ inr (has-then v ys k) ]

-- ---- products
pub pairs-then : (v : MathValue) (xs ys : List MathValue) → Has v (pairs_of xs ys) → (x : MathValue) × (y : MathValue) × Has x xs × Has y ys × (v ≡ pair x y)
pairs-then v xs ys h = let w = Has-flat_map-then (λ x. map (pair x) ys) v xs h in let k = Has-map-then (pair w.0) v ys w.2 in (w.0, k.0, w.1, k.1, k.2)

pub pairs-if : (x y : MathValue) (xs ys : List MathValue) → Has x xs → Has y ys → Has (pair x y) (pairs_of xs ys)
pairs-if x y xs ys h k = Has-flat_map-if (λ x. map (pair x) ys) (pair x y) xs x h (Has-map-if (pair x) (pair x y) ys y k refl)

pub product-has : (xs ys : List MathValue) (v : MathValue) → is_pair_of (has xs) (has ys) v ≡ has (pairs_of xs ys) v
product-has xs ys (pair x y) = both_ways (has xs x && has ys y) (has (pairs_of xs ys) (pair x y))
    (λ h. let k = and-both (has xs x) (has ys y) h in has-if (pair x y) (pairs_of xs ys) (pairs-if x y xs ys (has-then x xs k.0) (has-then y ys k.1)))
    (λ h. let w = pairs-then (pair x y) xs ys (has-then (pair x y) (pairs_of xs ys) h) in let e : x ≡ w.0 = cc in let d : y ≡ w.1 = cc in and-true (has xs x) (has ys y) (has-if x xs (subst (λ z. Has z xs) (sym e) w.2)) (has-if y ys (subst (λ z. Has z ys) (sym d) w.3)))
product-has xs ys v = both_ways (is_pair_of (has xs) (has ys) v) (has (pairs_of xs ys) v) (λ h. absurd (cc)) (λ h. let w = pairs-then v xs ys (has-then v (pairs_of xs ys) h) in absurd (cc))

-- ---- BOOL and the enumerated sets
pub elements-then : (s n i : ℕ) (v : MathValue) → Has v (elements_from s i n) → (k : ℕ) × (v ≡ elem s k) × (i ≤ k) × (k < i + n)
elements-then s zero i v h = absurd h
elements-then s (suc n) i v (inl h) = (i, h, omega arith, omega arith)
elements-then s (suc n) i v (inr h) = let w = elements-then s n (suc i) v h in (w.0, w.1, omega arith, omega arith)

pub elements-if : (s n i k : ℕ) → i ≤ k → k < i + n → Has (elem s k) (elements_from s i n)
elements-if s zero i k h l = absurd (omega arith)
elements-if s (suc n) i k h l = elim (here i k h) [ inl e ↦ inl (ap (elem s) e) | inr g ↦ inr (elements-if s n (suc i) k g (omega arith)) ]
  where
    here : (i k : ℕ) → i ≤ k → (k ≡ i) ⊎ (suc i ≤ k)
    here i k h = grind arith

nat_eq-same : (m n : ℕ) → nat_eq m n ≡ true → m ≡ n
nat_eq-same m n h = grind (arith, nat_tests)

pub nat_eq-self : (n : ℕ) → nat_eq n n ≡ true
nat_eq-self n = grind (arith, nat_tests)

nat_lt-then : (m n : ℕ) → nat_lt m n ≡ true → m < n
nat_lt-then m n h = grind (arith, nat_tests)

nat_lt-if : (m n : ℕ) → m < n → nat_lt m n ≡ true
nat_lt-if m n h = grind (arith, nat_tests)

enumerated-has : (n k s i : ℕ) → (nat_eq s n && nat_lt i k) ≡ has (elements_from n 0 k) (elem s i)
enumerated-has n k s i = both_ways (nat_eq s n && nat_lt i k) (has (elements_from n 0 k) (elem s i))
    (λ h. let w = and-both (nat_eq s n) (nat_lt i k) h in let l = nat_lt-then i k w.1 in has-if (elem s i) (elements_from n 0 k) (subst (λ x. Has (elem x i) (elements_from n 0 k)) (sym (nat_eq-same s n w.0)) (elements-if n k 0 i (omega arith) (omega arith))))
    (λ h. let w = elements-then n k 0 (elem s i) (has-then (elem s i) (elements_from n 0 k) h) in let e : s ≡ n = cc in let d : i ≡ w.0 = cc in and-true (nat_eq s n) (nat_lt i k) (subst (λ x. nat_eq x n ≡ true) (sym e) (nat_eq-self n)) (nat_lt-if i k (omega arith)))

no-element : (n k : ℕ) (v : MathValue) → ((i : ℕ) → v ≡ elem n i → ⊥) → false ≡ has (elements_from n 0 k) v
no-element n k v h = both_ways false (has (elements_from n 0 k) v) (λ e. absurd (cc)) (λ e. let w = elements-then n k 0 v (has-then v (elements_from n 0 k) e) in absurd (h w.0 w.1))

-- the values in BOOL or an enumerated set are the elements of its value
pub named-has : (sizes : ℕ → ℕ) (d : Domain) → ((d ≡ Booleans) ⊎ ((n : ℕ) × (d ≡ Enum n))) → (v : MathValue) → is_in_named sizes d v ≡ is_element v (named_value sizes d)
named-has sizes Booleans k v = by_value v ∙ sym (element-set_value (bool false ∷ bool true ∷ []) v)
  where
    by_value : (v : MathValue) → is_in_named sizes Booleans v ≡ has (bool false ∷ bool true ∷ []) v
    by_value (bool true) = refl
    by_value (bool false) = refl
    by_value (int z) = refl
    by_value (elem s i) = refl
    by_value (pair x y) = refl
    by_value (set vs) = refl
named-has sizes (Enum n) k v = by_value v ∙ sym (element-set_value (elements_from n 0 (sizes n)) v)
  where
    by_value : (v : MathValue) → is_in_named sizes (Enum n) v ≡ has (elements_from n 0 (sizes n)) v
    by_value (elem s i) = enumerated-has n (sizes n) s i
    by_value (int z) = no-element n (sizes n) (int z) (λ i e. cc)
    by_value (bool b) = no-element n (sizes n) (bool b) (λ i e. cc)
    by_value (pair x y) = no-element n (sizes n) (pair x y) (λ i e. cc)
    by_value (set vs) = no-element n (sizes n) (set vs) (λ i e. cc)
named-has sizes Integer (inl e) v = absurd (cc)
named-has sizes Integer (inr e) v = absurd (cc e.1)
named-has sizes Natural (inl e) v = absurd (cc)
named-has sizes Natural (inr e) v = absurd (cc e.1)
named-has sizes Natural1 (inl e) v = absurd (cc)
named-has sizes Natural1 (inr e) v = absurd (cc e.1)
