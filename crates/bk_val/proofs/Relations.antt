-- What the pairs of a relation are, and what it relates.
use Rattle.std.proofs.Common.{◌≡◌, ℕ, ◌+◌, ◌<◌, Bool, true, false, ◌||◌, ◌&&◌, not, cond, List, [], ◌∷◌, ◌++◌, length, take, drop, get_or, refl, sym, ◌∙◌, ap, subst, ◌↔◌, ⊎_elim, drop-cons, add-one}
use Rattle.std.specs.Prelude.{map, Option, Some, None, is_some}
use Rattle.std.specs.Option.{option_to_list}
use Rattle.std.specs.Ordering.{eq_by_cmp, ordering_then}
use Rattle.std.specs.declared.cmp.Ordering.TheVariants.{Less, Equal}
use Rattle.std.specs.List.{filter}
use Rattle.std.specs.List.Sorted.{IsStrictlySortedBy}
use Rattle.std.proofs.lemmas.Bool.{or_cases, or_left, or_right, cond_both}
use Rattle.std.proofs.lemmas.List.{map-append, take-append-drop}
use Rattle.std.proofs.lemmas.List.Elements.{filter-append}
use Rattle.bk_val.specs.Value.{MathValue, pair, value_cmp, IsStrictlySorted}
use Rattle.bk_val.specs.Sets.{has, seconds_of, second_of, first_passes, in_domain, begins_outside, overridden_of, image_of, apply_of, only_element, IsImage, IsOnlyValue}
use Rattle.bk_val.specs.CmpLaws.{value_cmp-self, value_eq-self, same_value}
use Rattle.bk_val.proofs.SortedLists.{Below}
use Rattle.bk_val.proofs.Elements.{has-first, has-filter, has-set_of, has-union_of}

-- what equality answers for x
abbrev pub is : MathValue → MathValue → Bool
is x y = eq_by_cmp value_cmp x y

seconds_of-append : (test : MathValue → Bool) (xs ys : List MathValue) → seconds_of test (xs ++ ys) ≡ seconds_of test xs ++ seconds_of test ys
seconds_of-append test xs ys = ap (map second_of) (filter-append (first_passes test) xs ys) ∙ map-append second_of (filter (first_passes test) xs) (filter (first_passes test) ys)

-- a second pair that begins so leaves no only one
pub two_begin : (test : MathValue → Bool) (f : List MathValue) (i : ℕ) (p a b : MathValue) (o : Option MathValue) → i < length f → p ≡ get_or f i p → p ≡ pair a b → test a ≡ true → seconds_of test (take i f) ≡ option_to_list o → is_some o ≡ true → None ≡ only_element (seconds_of test f)
two_begin test f i p a b (Some v) h e q t k n =
    let split : f ≡ take i f ++ (pair a b ∷ drop (i + 1) f) = sym (take-append-drop i f) ∙ rw (add-one, drop-cons f i p h, ← e, q) in
    let parts : seconds_of test f ≡ (v ∷ []) ++ seconds_of test (pair a b ∷ drop (i + 1) f) = ap (seconds_of test) split ∙ seconds_of-append test (take i f) _ ∙ rw k in
    rw (parts, t)
two_begin test f i p a b None h e q t k n = let e' : false ≡ true = n in cc

-- ---- the second parts
has_more : (p q : MathValue) (r : List MathValue) → has r q ≡ true → has (p ∷ r) q ≡ true
has_more p q r h = or_right (is q p) (has r q) h

has_equal : (p q : MathValue) (r : List MathValue) → q ≡ p → has (p ∷ r) q ≡ true
has_equal p q r e = or_left (is q p) (has r q) (rw e (value_eq-self p))

seconds_more : (test : MathValue → Bool) (p y : MathValue) (r : List MathValue) → has (seconds_of test r) y ≡ true → has (seconds_of test (p ∷ r)) y ≡ true
seconds_more test p y r h = cond_both (first_passes test p) (p ∷ filter (first_passes test) r) (filter (first_passes test) r) (λ l. has (map second_of l) y ≡ true)
    (λ _. has_more (second_of p) y (seconds_of test r) h) (λ _. h)

pub has-seconds_of : (test : MathValue → Bool) (r : List MathValue) (x y : MathValue) → test x ≡ true → has r (pair x y) ≡ true → has (seconds_of test r) y ≡ true
has-seconds_of test [] x y t h = let e : false ≡ true = h in cc
has-seconds_of test (p ∷ r) x y t h = ⊎_elim
    (λ (e : is (pair x y) p ≡ true). rw (← (same_value (pair x y) p e), t) (has-first y (seconds_of test r)))
    (λ (e : has r (pair x y) ≡ true). seconds_more test p y r (has-seconds_of test r x y t e))
    (or_cases (is (pair x y) p) (has r (pair x y)) h)

abbrev Starts : (MathValue → Bool) → List MathValue → MathValue → Type 0
Starts test r y = (x : MathValue) × ((test x ≡ true) × (has r (pair x y) ≡ true))

starts_more : (test : MathValue → Bool) (p : MathValue) (r : List MathValue) (y : MathValue) → Starts test r y → Starts test (p ∷ r) y
starts_more test p r y (x, (t, h)) = (x, (t, has_more p (pair x y) r h))

starts_at : (test : MathValue → Bool) (a b : MathValue) (r : List MathValue) (y : MathValue) (t : Bool) → test a ≡ t → (has (seconds_of test r) y ≡ true → Starts test r y) → has (map second_of (cond t (pair a b ∷ filter (first_passes test) r) (filter (first_passes test) r))) y ≡ true → Starts test (pair a b ∷ r) y
starts_at test a b r y true e on h = ⊎_elim
    (λ (k : is y b ≡ true). (a, (e, has_equal (pair a b) (pair a y) r (ap (pair a) (same_value y b k)))))
    (λ (k : has (seconds_of test r) y ≡ true). starts_more test (pair a b) r y (on k))
    (or_cases (is y b) (has (seconds_of test r) y) h)
starts_at test a b r y false e on h = starts_more test (pair a b) r y (on h)

pub starts_from_seconds_of : (test : MathValue → Bool) (r : List MathValue) (y : MathValue) → has (seconds_of test r) y ≡ true → Starts test r y
starts_from_seconds_of test [] y h = let e : false ≡ true = h in cc
starts_from_seconds_of test (pair a b ∷ r) y h = starts_at test a b r y (test a) refl (starts_from_seconds_of test r y) h
starts_from_seconds_of test (p ∷ r) y h = starts_more test p r y (starts_from_seconds_of test r y h)

-- the members of an image
pub image_of-members : (r s : List MathValue) (y : MathValue) → (has (image_of r s) y ≡ true) ↔ IsImage r s y
image_of-members r s y = (
  (λ h. starts_from_seconds_of (has s) r y (sym (has-set_of (seconds_of (has s) r) y) ∙ h)),
  (λ i. has-set_of (seconds_of (has s) r) y ∙ has-seconds_of (has s) r i.0 y i.1.0 i.1.1),
)

-- ---- the domain
domain_more : (p : MathValue) (r : List MathValue) (x : MathValue) → ((y : MathValue) × (has r (pair x y) ≡ true)) → (y : MathValue) × (has (p ∷ r) (pair x y) ≡ true)
domain_more p r x (y, h) = (y, has_more p (pair x y) r h)

pub pair_from_in_domain : (r : List MathValue) (x : MathValue) → in_domain r x ≡ true → (y : MathValue) × (has r (pair x y) ≡ true)
pair_from_in_domain [] x h = let e : false ≡ true = h in cc
pair_from_in_domain (pair a b ∷ r) x h = ⊎_elim
    (λ (e : is x a ≡ true). (b, has_equal (pair a b) (pair x b) r (ap (λ z. pair z b) (same_value x a e))))
    (λ (e : in_domain r x ≡ true). domain_more (pair a b) r x (pair_from_in_domain r x e))
    (or_cases (is x a) (in_domain r x) h)
pair_from_in_domain (p ∷ r) x h = domain_more p r x (pair_from_in_domain r x h)

pub in_domain_from_pair : (r : List MathValue) (x y : MathValue) → has r (pair x y) ≡ true → in_domain r x ≡ true
in_domain_from_pair [] x y h = let e : false ≡ true = h in cc
in_domain_from_pair (p ∷ r) x y h = ⊎_elim
    (λ (e : is (pair x y) p ≡ true). rw (← (same_value (pair x y) p e)) (or_left (is x x) (in_domain r x) (value_eq-self x)))
    (λ (e : has r (pair x y) ≡ true). or_right (first_passes (is x) p) (in_domain r x) (in_domain_from_pair r x y e))
    (or_cases (is (pair x y) p) (has r (pair x y)) h)

-- the pairs of an overridden relation
pub overridden_of-pairs : (r s : List MathValue) (x y : MathValue) → has (overridden_of r s) (pair x y) ≡ ((has r (pair x y) && not (in_domain s x)) || has s (pair x y))
overridden_of-pairs r s x y = has-union_of (filter (begins_outside s) r) s (pair x y) ∙ ap (λ b. b || has s (pair x y)) (has-filter (begins_outside s) r (pair x y))

-- ---- the only value
below_at : (x b a c : MathValue) (r : List MathValue) (t : Bool) → is x a ≡ t → value_cmp (pair x b) (pair a c) ≡ Less → Below b (seconds_of (is x) r) → Below b (map second_of (cond t (pair a c ∷ filter (first_passes (is x)) r) (filter (first_passes (is x)) r)))
below_at x b a c r true e l on = (below_second a (sym (same_value x a e)) l, on)
  where
    below_second : (z : MathValue) → z ≡ x → value_cmp (pair x b) (pair z c) ≡ Less → value_cmp b c ≡ Less
    below_second z f m = let n : ordering_then (value_cmp x x) (value_cmp b c) ≡ Less = rw f at m in rw (value_cmp-self x) at n
below_at x b a c r false e l on = on

below_seconds_of : (x b : MathValue) (r : List MathValue) → Below (pair x b) r → Below b (seconds_of (is x) r)
below_seconds_of x b [] h = tt
below_seconds_of x b (pair a c ∷ r) h = below_at x b a c r (is x a) refl h.0 (below_seconds_of x b r h.1)
below_seconds_of x b (p ∷ r) h = below_seconds_of x b r h.1

sorted_seconds_at : (x a b : MathValue) (r : List MathValue) (t : Bool) → is x a ≡ t → Below (pair a b) r → IsStrictlySorted (seconds_of (is x) r) → IsStrictlySorted (map second_of (cond t (pair a b ∷ filter (first_passes (is x)) r) (filter (first_passes (is x)) r)))
unfolding IsStrictlySortedBy
sorted_seconds_at x a b r true e h on = (below_seconds_of x b r (subst (λ z. Below (pair z b) r) (sym (same_value x a e)) h), on)
sorted_seconds_at x a b r false e h on = on

sorted_seconds_of : (x : MathValue) (r : List MathValue) → IsStrictlySorted r → IsStrictlySorted (seconds_of (is x) r)
unfolding IsStrictlySortedBy
sorted_seconds_of x [] s = tt
sorted_seconds_of x (pair a b ∷ r) s = sorted_seconds_at x a b r (is x a) refl s.0 (sorted_seconds_of x r s.1)
sorted_seconds_of x (p ∷ r) s = sorted_seconds_of x r s.1

-- the list holds y and nothing else
abbrev HoldsOnly : List MathValue → MathValue → Type 0
HoldsOnly xs y = (has xs y ≡ true) × ((z : MathValue) → has xs z ≡ true → z ≡ y)

single : (x z : MathValue) → has (x ∷ []) z ≡ true → z ≡ x
single x z h = ⊎_elim (λ (e : is z x ≡ true). same_value z x e) (λ (e : false ≡ true). cc) (or_cases (is z x) false h)

only_from_element : (xs : List MathValue) (y : MathValue) → only_element xs ≡ Some y → HoldsOnly xs y
only_from_element [] y e = cc
only_from_element (x ∷ []) y e = let f : x ≡ y = cc in (rw f (has-first y []), λ z h. single x z h ∙ f)
only_from_element (x ∷ z ∷ xs) y e = cc

element_from_only : (xs : List MathValue) (y : MathValue) → IsStrictlySorted xs → HoldsOnly xs y → only_element xs ≡ Some y
unfolding IsStrictlySortedBy
element_from_only [] y s h = let e : false ≡ true = h.0 in cc
element_from_only (x ∷ []) y s h = ap Some (h.1 x (has-first x []))
element_from_only (x ∷ z ∷ xs) y s h =
    let e : x ≡ z = h.1 x (has-first x (z ∷ xs)) ∙ sym (h.1 z (has_more x z (z ∷ xs) (has-first z xs))) in
    let l : value_cmp z z ≡ Less = rw e at s.0.0 in
    let f : Less ≡ Equal = sym l ∙ value_cmp-self z in
    cc

has_pair : (f : List MathValue) (x z : MathValue) → has (seconds_of (is x) f) z ≡ true → has f (pair x z) ≡ true
has_pair f x z h = let (w, (t, k)) = starts_from_seconds_of (is x) f z h in rw (same_value x w t) k

has_second : (f : List MathValue) (x z : MathValue) → has f (pair x z) ≡ true → has (seconds_of (is x) f) z ≡ true
has_second f x z h = has-seconds_of (is x) f x z (value_eq-self x) h

-- what the application of a function gives
pub apply_of-some : (f : List MathValue) (x y : MathValue) → IsStrictlySorted f → (apply_of f x ≡ Some y) ↔ IsOnlyValue f x y
apply_of-some f x y s = (
  (λ e. let h = only_from_element (seconds_of (is x) f) y e in record { starts = has_pair f x y h.0; only = λ z k. h.1 z (has_second f x z k) }),
  (λ v. element_from_only (seconds_of (is x) f) y (sorted_seconds_of x f s) (has_second f x y v.starts, λ z k. v.only z (has_pair f x z k))),
)

some_or_none : (f : List MathValue) (x : MathValue) (o : Option MathValue) → apply_of f x ≡ o → IsStrictlySorted f → ((y : MathValue) → IsOnlyValue f x y → ⊥) → o ≡ None
some_or_none f x None e s n = refl
some_or_none f x (Some y) e s n = absurd (n y ((apply_of-some f x y s).0 e))

pub apply_of-none : (f : List MathValue) (x : MathValue) → IsStrictlySorted f → (apply_of f x ≡ None) ↔ ((y : MathValue) → IsOnlyValue f x y → ⊥)
apply_of-none f x s = (
  (λ e y v. let g : None ≡ Some y = sym e ∙ (apply_of-some f x y s).1 v in cc),
  (λ n. some_or_none f x (apply_of f x) refl s n),
)
