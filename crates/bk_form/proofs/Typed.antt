-- The operators on values of their types give values of the types that they give.
use Rattle.std.proofs.Common.{◌≡◌, ◌⊎◌, inl, inr, ℕ, zero, suc, ℤ, pos, ◌+ℤ◌, ◌-ℤ◌, List, [], ◌∷◌, map, refl, sym, ap, subst, Bool, true, not, ◌&&◌}
use Rattle.std.specs.Prelude.{Option, Some, None, unwrap_or}
use Rattle.std.specs.List.{filter, AllByRecursion}
use Rattle.std.specs.List.Sorted.{IsStrictlySortedBy}
use Rattle.std.specs.declared.cmp.Ordering.TheVariants.{Less}
use Rattle.bk_val.specs.Value.{MathValue, MathValues, int, bool, pair, set, none, more, list_of, values_of, value_cmp, IsStrictlySorted, is_below, rises_from, is_rising}
use Rattle.bk_val.specs.ValueType.{ValueType, int_type, bool_type, pair_type, set_type, is_value_of, are_values_of}
use Rattle.bk_val.specs.Sets.{has, set_of, union_of, inter_of, minus_of, second_of, seconds_of, first_passes, begins_outside, overridden_of, image_of, only_element, apply_of}
use Rattle.bk_val.proofs.Elements.{sorted_set_of}
use Rattle.bk_form.specs.Role.{Role, gives, predicate, if_holds, if_number, if_value, if_set, if_relation, same_type, unary_role, binary_role, numbers_role, sets_role, product_role, domain_part_role, range_part_role, override_role, pair_role, image_role, application_role, composition_role}
use Rattle.bk_form.specs.Operators.{elements, set_value, is_element, is_equal, first_part, swapped, number_in, numbers_from, count_of, interval, pairs_of, begins_with, composed, unary_value, binary_value}
use Rattle.bk_form.specs.declared.operator.UnOp.{UnOp}
use Rattle.bk_form.specs.declared.operator.UnOp.TheVariants.{Not, BoolOf, Neg, Card, Min, Max, Dom, Ran, Id, Inverse, Single, Pow, Pow1}
use Rattle.bk_form.specs.declared.operator.BinOp.{BinOp}
use Rattle.bk_form.specs.declared.operator.BinOp.TheVariants.{And, Or, Imp, Iff, Eq, Lt, Le, In, Relations, PartialFunctions, TotalFunctions, PartialInjections, TotalInjections, PartialSurjections, TotalSurjections, Bijections, Union, Inter, Minus, Times, DomRes, RanRes, DomSub, RanSub, Over, Maps, Range, Add, Sub, Mul, Div, Mod, Power, Image, Apply, Comp}
use Rattle.bk_form.proofs.Members.{Has, Has-map-then, Has-filter-then, Has-flat_map-then, Has-set_of, Has-union_of, pairs-then, and-true, and-both}
use Rattle.bk_form.proofs.Roles.{if_holds-gives, if_predicate-gives, if_number-gives, if_value-gives, if_set-gives, if_relation-gives, same_type-then}
use Rattle.bk_form.proofs.Givers.{connective-gives, comparison-gives, equality-gives, membership-gives, arrow-gives, power-gives, product-gives}
use Rattle.bk_form.proofs.Listed.{gives-same}

-- ---- a sorted list rises
rises-from : (x : MathValue) (xs : List MathValue) → AllByRecursion (λ y. value_cmp x y ≡ Less) xs → is_rising (values_of xs) ≡ true → rises_from x (values_of xs) ≡ true
rises-from x [] a h = refl
rises-from x (y ∷ xs) a h = and-true (is_below (value_cmp x y)) (rises_from y (values_of xs)) (ap is_below a.0) h

pub rising-if_sorted : (xs : List MathValue) → IsStrictlySorted xs → is_rising (values_of xs) ≡ true
unfolding IsStrictlySortedBy
rising-if_sorted [] s = refl
rising-if_sorted (x ∷ xs) s = rises-from x xs s.0 (rising-if_sorted xs s.1)

module _ (sizes : ℕ → ℕ) where
  -- v is a value of the type
  abbrev pub Of : ValueType → MathValue → Type 0
  Of t v = is_value_of sizes t v ≡ true

  each-of : (t : ValueType) (xs : List MathValue) → ((v : MathValue) → Has v xs → Of t v) → are_values_of sizes t (values_of xs) ≡ true
  each-of t [] h = refl
  each-of t (x ∷ xs) h = and-true (is_value_of sizes t x) (are_values_of sizes t (values_of xs)) (h x (inl refl)) (each-of t xs (λ v k. h v (inr k)))

  pub set-of : (t : ValueType) (xs : List MathValue) → ((v : MathValue) → Has v xs → Of t v) → Of (set_type t) (set_value xs)
  set-of t xs h = and-true (are_values_of sizes t (values_of (set_of xs))) (is_rising (values_of (set_of xs))) (each-of t (set_of xs) (λ v k. h v (Has-set_of v xs k))) (rising-if_sorted (set_of xs) (sorted_set_of xs))

  all-has : (t : ValueType) (ws : MathValues) (v : MathValue) → are_values_of sizes t ws ≡ true → Has v (list_of ws) → Of t v
  all-has t none v h k = absurd k
  all-has t (more w ws) v h (inl k) = subst (Of t) (sym k) (and-both (is_value_of sizes t w) (are_values_of sizes t ws) h).0
  all-has t (more w ws) v h (inr k) = all-has t ws v (and-both (is_value_of sizes t w) (are_values_of sizes t ws) h).1 k

  pub elements-of : (t : ValueType) (w v : MathValue) → Of (set_type t) w → Has v (elements w) → Of t v
  elements-of t (set ws) v h k = all-has t ws v (and-both (are_values_of sizes t ws) (is_rising ws) h).0 k
  elements-of t _ v h k = absurd k

  pub first-of : (t u : ValueType) (v : MathValue) → Of (pair_type t u) v → Of t (first_part v)
  first-of t u (pair v w) h = (and-both (is_value_of sizes t v) (is_value_of sizes u w) h).0
  first-of t u _ h = absurd (cc)

  pub second-of : (t u : ValueType) (v : MathValue) → Of (pair_type t u) v → Of u (second_of v)
  second-of t u (pair v w) h = (and-both (is_value_of sizes t v) (is_value_of sizes u w) h).1
  second-of t u _ h = absurd (cc)

  swapped-of : (t u : ValueType) (v : MathValue) → Of (pair_type t u) v → Of (pair_type u t) (swapped v)
  swapped-of t u (pair v w) h = let k = and-both (is_value_of sizes t v) (is_value_of sizes u w) h in and-true (is_value_of sizes u w) (is_value_of sizes t v) k.1 k.0
  swapped-of t u _ h = absurd (cc)

  pair-of : (t u : ValueType) (v w : MathValue) → Of t v → Of u w → Of (pair_type t u) (pair v w)
  pair-of t u v w h k = and-true (is_value_of sizes t v) (is_value_of sizes u w) h k

  -- the elements as a function leaves them
  mapped-of : (t u : ValueType) (f : MathValue → MathValue) (v : MathValue) → ((x : MathValue) → Of t x → Of u (f x)) → Of (set_type t) v → Of (set_type u) (set_value (map f (elements v)))
  mapped-of t u f v g h = set-of u (map f (elements v)) (λ w k. let m = Has-map-then f w (elements v) k in subst (Of u) (sym m.2) (g m.0 (elements-of t v m.0 h m.1)))

  -- some of the elements
  filtered-of : (t : ValueType) (p : MathValue → Bool) (v : MathValue) → Of (set_type t) v → Of (set_type t) (set_value (filter p (elements v)))
  filtered-of t p v h = set-of t (filter p (elements v)) (λ w k. elements-of t v w h (Has-filter-then p w (elements v) k).0)

  numbers-of : (n : ℕ) (z : ℤ) (v : MathValue) → Has v (numbers_from z n) → Of int_type v
  numbers-of zero z v h = absurd h
  numbers-of (suc n) z v (inl h) = subst (Of int_type) (sym h) refl
  numbers-of (suc n) z v (inr h) = numbers-of n (z +ℤ pos 1) v h

  as_type : (t u : ValueType) (v : MathValue) → gives t ≡ gives u → Of t v → Of u v
  as_type t u v h o = subst (λ x. Of x v) (gives-same t u h) o

  -- the value of an operand, by its role
  abbrev pub OfRole : Role → MathValue → Type 0
  OfRole r v = (t : ValueType) → r ≡ gives t → Of t v

  pub unary-of : (o : UnOp) (r : Role) (v : MathValue) (b : Bool) → OfRole r v → OfRole (unary_role o r) (unary_value o v b)
  unary-of Not r v b f t h = let k = if_predicate-gives predicate r t h in absurd (cc k.1)
  unary-of BoolOf r v b f t h = let k = if_predicate-gives (gives bool_type) r t h in as_type bool_type t (bool b) k.1 refl
  unary-of Neg r v b f t h = let k = if_number-gives (gives int_type) r t h in as_type int_type t (unary_value Neg v b) k.1 refl
  unary-of Card r v b f t h = let k = if_set-gives (λ u. gives int_type) r t h in as_type int_type t (unary_value Card v b) k.2 refl
  unary-of Min r v b f t h = let k = if_set-gives (λ u. if_holds (same_type u int_type) (gives int_type)) r t h in let m = if_holds-gives (same_type k.0 int_type) (gives int_type) t k.2 in as_type int_type t (unary_value Min v b) m.1 refl
  unary-of Max r v b f t h = let k = if_set-gives (λ u. if_holds (same_type u int_type) (gives int_type)) r t h in let m = if_holds-gives (same_type k.0 int_type) (gives int_type) t k.2 in as_type int_type t (unary_value Max v b) m.1 refl
  unary-of Dom r v b f t h = let k = if_relation-gives (λ u w. gives (set_type u)) r t h in as_type (set_type k.first) t (unary_value Dom v b) k.result (mapped-of (pair_type k.first k.second) k.first first_part v (first-of k.first k.second) (f (set_type (pair_type k.first k.second)) k.operand))
  unary-of Ran r v b f t h = let k = if_relation-gives (λ u w. gives (set_type w)) r t h in as_type (set_type k.second) t (unary_value Ran v b) k.result (mapped-of (pair_type k.first k.second) k.second second_of v (second-of k.first k.second) (f (set_type (pair_type k.first k.second)) k.operand))
  unary-of Id r v b f t h = let k = if_set-gives (λ u. gives (set_type (pair_type u u))) r t h in as_type (set_type (pair_type k.0 k.0)) t (unary_value Id v b) k.2 (mapped-of k.0 (pair_type k.0 k.0) (λ x. pair x x) v (λ x o. pair-of k.0 k.0 x x o o) (f (set_type k.0) k.1))
  unary-of Inverse r v b f t h = let k = if_relation-gives (λ u w. gives (set_type (pair_type w u))) r t h in as_type (set_type (pair_type k.second k.first)) t (unary_value Inverse v b) k.result (mapped-of (pair_type k.first k.second) (pair_type k.second k.first) swapped v (swapped-of k.first k.second) (f (set_type (pair_type k.first k.second)) k.operand))
  unary-of Single r v b f t h = let k = if_value-gives (λ u. gives (set_type u)) r t h in as_type (set_type k.0) t (unary_value Single v b) k.2 (set-of k.0 (v ∷ []) (λ w m. elim m [ inl e ↦ subst (Of k.0) (sym e) (f k.0 k.1) | inr e ↦ absurd e ]))
  unary-of Pow r v b f t h = absurd (power-gives r t h)
  unary-of Pow1 r v b f t h = absurd (power-gives r t h)

  number-result : (a b : Role) (z : ℤ) (t : ValueType) → numbers_role (gives int_type) a b ≡ gives t → Of t (int z)
  number-result a b z t h = let k = if_number-gives (if_number (gives int_type) b) a t h in let n = if_number-gives (gives int_type) b t k.1 in as_type int_type t (int z) n.1 refl

  interval-result : (a b : Role) (x y : ℤ) (t : ValueType) → numbers_role (gives (set_type int_type)) a b ≡ gives t → Of t (interval x y)
  interval-result a b x y t h =
      let k = if_number-gives (if_number (gives (set_type int_type)) b) a t h in
      let n = if_number-gives (gives (set_type int_type)) b t k.1 in
      let c = count_of ((y +ℤ pos 1) -ℤ x) in
      as_type (set_type int_type) t (interval x y) n.1 (set-of int_type (numbers_from x c) (λ v m. numbers-of c x v m))

  -- a set made of elements of two sets of one type
  sets-result : (a b : Role) (v w : MathValue) (xs : List MathValue) (t : ValueType) → OfRole a v → OfRole b w → ((x : MathValue) → Has x xs → Has x (elements v) ⊎ Has x (elements w)) → sets_role a b ≡ gives t → Of t (set_value xs)
  sets-result a b v w xs t f g on h =
      let k = if_set-gives (λ s. if_set (λ u. if_holds (same_type s u) (gives (set_type s))) b) a t h in
      let n = if_set-gives (λ u. if_holds (same_type k.0 u) (gives (set_type k.0))) b t k.2 in
      let m = if_holds-gives (same_type k.0 n.0) (gives (set_type k.0)) t n.2 in
      let e = same_type-then k.0 n.0 m.0 in
      as_type (set_type k.0) t (set_value xs) m.1 (set-of k.0 xs (λ x o. elim (on x o) [ inl p ↦ elements-of k.0 v x (f (set_type k.0) k.1) p | inr p ↦ subst (λ y. Of y x) (sym e) (elements-of n.0 w x (g (set_type n.0) n.1) p) ]))

  domain_part-result : (r a : Role) (v : MathValue) (p : MathValue → Bool) (t : ValueType) → OfRole r v → domain_part_role r a ≡ gives t → Of t (set_value (filter p (elements v)))
  domain_part-result r a v p t f h =
      let k = if_relation-gives (λ u x. if_set (λ w. if_holds (same_type w u) (gives (set_type (pair_type u x)))) a) r t h in
      let n = if_set-gives (λ w. if_holds (same_type w k.first) (gives (set_type (pair_type k.first k.second)))) a t k.result in
      let m = if_holds-gives (same_type n.0 k.first) (gives (set_type (pair_type k.first k.second))) t n.2 in
      as_type (set_type (pair_type k.first k.second)) t (set_value (filter p (elements v))) m.1 (filtered-of (pair_type k.first k.second) p v (f (set_type (pair_type k.first k.second)) k.operand))

  range_part-result : (r a : Role) (v : MathValue) (p : MathValue → Bool) (t : ValueType) → OfRole r v → range_part_role r a ≡ gives t → Of t (set_value (filter p (elements v)))
  range_part-result r a v p t f h =
      let k = if_relation-gives (λ u x. if_set (λ w. if_holds (same_type w x) (gives (set_type (pair_type u x)))) a) r t h in
      let n = if_set-gives (λ w. if_holds (same_type w k.second) (gives (set_type (pair_type k.first k.second)))) a t k.result in
      let m = if_holds-gives (same_type n.0 k.second) (gives (set_type (pair_type k.first k.second))) t n.2 in
      as_type (set_type (pair_type k.first k.second)) t (set_value (filter p (elements v))) m.1 (filtered-of (pair_type k.first k.second) p v (f (set_type (pair_type k.first k.second)) k.operand))

  override-result : (a b : Role) (v w : MathValue) (t : ValueType) → OfRole a v → OfRole b w → override_role a b ≡ gives t → Of t (set_value (overridden_of (elements v) (elements w)))
  override-result a b v w t f g h =
      let k = if_relation-gives (λ u x. if_relation (λ y z. if_holds (same_type u y && same_type x z) (gives (set_type (pair_type u x)))) b) a t h in
      let n = if_relation-gives (λ y z. if_holds (same_type k.first y && same_type k.second z) (gives (set_type (pair_type k.first k.second)))) b t k.result in
      let m = if_holds-gives (same_type k.first n.first && same_type k.second n.second) (gives (set_type (pair_type k.first k.second))) t n.result in
      let q = and-both (same_type k.first n.first) (same_type k.second n.second) m.0 in
      let e = same_type-then k.first n.first q.0 in
      let d = same_type-then k.second n.second q.1 in
      let right : Of (set_type (pair_type k.first k.second)) w = subst (λ y. Of (set_type (pair_type y k.second)) w) (sym e) (subst (λ y. Of (set_type (pair_type n.first y)) w) (sym d) (g (set_type (pair_type n.first n.second)) n.operand)) in
      let kept = filter (begins_outside (elements w)) (elements v) in
      as_type (set_type (pair_type k.first k.second)) t (set_value (overridden_of (elements v) (elements w))) m.1
      (set-of (pair_type k.first k.second) (overridden_of (elements v) (elements w)) (λ x o. elim (Has-union_of x kept (elements w) o) [
        | inl p ↦ elements-of (pair_type k.first k.second) v x (f (set_type (pair_type k.first k.second)) k.operand) (Has-filter-then (begins_outside (elements w)) x (elements v) p).0
        | inr p ↦ elements-of (pair_type k.first k.second) w x right p
      ]))

  pair-result : (a b : Role) (v w : MathValue) (t : ValueType) → OfRole a v → OfRole b w → pair_role a b ≡ gives t → Of t (pair v w)
  pair-result a b v w t f g h =
      let k = if_value-gives (λ u. if_value (λ x. gives (pair_type u x)) b) a t h in
      let n = if_value-gives (λ x. gives (pair_type k.0 x)) b t k.2 in
      as_type (pair_type k.0 n.0) t (pair v w) n.2 (pair-of k.0 n.0 v w (f k.0 k.1) (g n.0 n.1))

  -- the second parts of pairs of a relation
  seconds-of : (t u : ValueType) (test : MathValue → Bool) (v y : MathValue) → Of (set_type (pair_type t u)) v → Has y (seconds_of test (elements v)) → Of u y
  seconds-of t u test v y h k =
      let m = Has-map-then second_of y (filter (first_passes test) (elements v)) k in
      subst (Of u) (sym m.2) (second-of t u m.0 (elements-of (pair_type t u) v m.0 h (Has-filter-then (first_passes test) m.0 (elements v) m.1).0))

  image-result : (r a : Role) (v w : MathValue) (t : ValueType) → OfRole r v → image_role r a ≡ gives t → Of t (set_value (image_of (elements v) (elements w)))
  image-result r a v w t f h =
      let k = if_relation-gives (λ u x. if_set (λ y. if_holds (same_type y u) (gives (set_type x))) a) r t h in
      let n = if_set-gives (λ y. if_holds (same_type y k.first) (gives (set_type k.second))) a t k.result in
      let m = if_holds-gives (same_type n.0 k.first) (gives (set_type k.second)) t n.2 in
      as_type (set_type k.second) t (set_value (image_of (elements v) (elements w))) m.1
      (set-of k.second (image_of (elements v) (elements w)) (λ y o. seconds-of k.first k.second (has (elements w)) v y (f (set_type (pair_type k.first k.second)) k.operand) (Has-set_of y (seconds_of (has (elements w)) (elements v)) o)))

  only-has : (xs : List MathValue) (y : MathValue) → only_element xs ≡ Some y → Has y xs
  only-has [] y h = absurd (cc)
  only-has (x ∷ []) y h = inl (cc)
  only-has (x ∷ z ∷ xs) y h = absurd (cc)

  or_base : (u : ValueType) (o : Option MathValue) (base : MathValue) → Of u base → ((y : MathValue) → o ≡ Some y → Of u y) → Of u (unwrap_or o base)
  or_base u None base h f = h
  or_base u (Some y) base h f = f y refl

  application-result : (r a : Role) (base v w : MathValue) (t : ValueType) → OfRole r v → ((u : ValueType) → u ≡ t → Of u base) → application_role r a ≡ gives t → Of t (unwrap_or (apply_of (elements v) w) base)
  application-result r a base v w t f g h =
      let k = if_relation-gives (λ u x. if_value (λ y. if_holds (same_type y u) (gives x)) a) r t h in
      let n = if_value-gives (λ y. if_holds (same_type y k.first) (gives k.second)) a t k.result in
      let m = if_holds-gives (same_type n.0 k.first) (gives k.second) t n.2 in
      as_type k.second t (unwrap_or (apply_of (elements v) w) base) m.1
      (or_base k.second (apply_of (elements v) w) base (g k.second (gives-same k.second t m.1)) (λ y e. seconds-of k.first k.second (is_equal w) v y (f (set_type (pair_type k.first k.second)) k.operand) (only-has (seconds_of (is_equal w) (elements v)) y e)))

  composition-result : (a b : Role) (v w : MathValue) (t : ValueType) → OfRole a v → OfRole b w → composition_role a b ≡ gives t → Of t (set_value (composed (elements v) (elements w)))
  composition-result a b v w t f g h =
      let k = if_relation-gives (λ u x. if_relation (λ y z. if_holds (same_type x y) (gives (set_type (pair_type u z)))) b) a t h in
      let n = if_relation-gives (λ y z. if_holds (same_type k.second y) (gives (set_type (pair_type k.first z)))) b t k.result in
      let m = if_holds-gives (same_type k.second n.first) (gives (set_type (pair_type k.first n.second))) t n.result in
      as_type (set_type (pair_type k.first n.second)) t (set_value (composed (elements v) (elements w))) m.1
      (set-of (pair_type k.first n.second) (composed (elements v) (elements w)) (λ x o.
      let p = Has-flat_map-then (λ p. map (λ q. pair (first_part p) (second_of q)) (filter (begins_with (second_of p)) (elements w))) x (elements v) o in
      let q = Has-map-then (λ q. pair (first_part p.0) (second_of q)) x (filter (begins_with (second_of p.0)) (elements w)) p.2 in
      subst (Of (pair_type k.first n.second)) (sym q.2) (pair-of k.first n.second (first_part p.0) (second_of q.0)
      (first-of k.first k.second p.0 (elements-of (pair_type k.first k.second) v p.0 (f (set_type (pair_type k.first k.second)) k.operand) p.1))
      (second-of n.first n.second q.0 (elements-of (pair_type n.first n.second) w q.0 (g (set_type (pair_type n.first n.second)) n.operand) (Has-filter-then (begins_with (second_of p.0)) q.0 (elements w) q.1).0)))))

  product-result : (a b : Role) (v w : MathValue) (t : ValueType) → OfRole a v → OfRole b w → product_role a b ≡ gives t → Of t (set_value (pairs_of (elements v) (elements w)))
  product-result a b v w t f g h =
      let k = product-gives a b t h in
      subst (λ x. Of x (set_value (pairs_of (elements v) (elements w)))) k.result
      (set-of (pair_type k.first k.second) (pairs_of (elements v) (elements w)) (λ x o.
      let p = pairs-then x (elements v) (elements w) o in
      subst (Of (pair_type k.first k.second)) (sym p.4) (pair-of k.first k.second p.0 p.1 (elements-of k.first v p.0 (f (set_type k.first) k.left) p.2) (elements-of k.second w p.1 (g (set_type k.second) k.right) p.3))))

  pub binary-of : (o : BinOp) (a b : Role) (base v w : MathValue) (t : ValueType) → OfRole a v → OfRole b w → ((u : ValueType) → u ≡ t → Of u base) → binary_role o a b ≡ gives t → Of t (binary_value o base v w)
  binary-of And a b base v w t f g i h = absurd (connective-gives a b t h)
  binary-of Or a b base v w t f g i h = absurd (connective-gives a b t h)
  binary-of Imp a b base v w t f g i h = absurd (connective-gives a b t h)
  binary-of Iff a b base v w t f g i h = absurd (connective-gives a b t h)
  binary-of Eq a b base v w t f g i h = absurd (equality-gives a b t h)
  binary-of Lt a b base v w t f g i h = absurd (comparison-gives a b t h)
  binary-of Le a b base v w t f g i h = absurd (comparison-gives a b t h)
  binary-of In a b base v w t f g i h = absurd (membership-gives a b t h)
  binary-of Relations a b base v w t f g i h = absurd (arrow-gives a b t h)
  binary-of PartialFunctions a b base v w t f g i h = absurd (arrow-gives a b t h)
  binary-of TotalFunctions a b base v w t f g i h = absurd (arrow-gives a b t h)
  binary-of PartialInjections a b base v w t f g i h = absurd (arrow-gives a b t h)
  binary-of TotalInjections a b base v w t f g i h = absurd (arrow-gives a b t h)
  binary-of PartialSurjections a b base v w t f g i h = absurd (arrow-gives a b t h)
  binary-of TotalSurjections a b base v w t f g i h = absurd (arrow-gives a b t h)
  binary-of Bijections a b base v w t f g i h = absurd (arrow-gives a b t h)
  binary-of Union a b base v w t f g i h = sets-result a b v w (union_of (elements v) (elements w)) t f g (λ x o. Has-union_of x (elements v) (elements w) o) h
  binary-of Inter a b base v w t f g i h = sets-result a b v w (inter_of (elements v) (elements w)) t f g (λ x o. inl (Has-filter-then (has (elements w)) x (elements v) o).0) h
  binary-of Minus a b base v w t f g i h = sets-result a b v w (minus_of (elements v) (elements w)) t f g (λ x o. inl (Has-filter-then (λ y. not (has (elements w) y)) x (elements v) o).0) h
  binary-of Times a b base v w t f g i h = product-result a b v w t f g h
  binary-of DomRes a b base v w t f g i h = domain_part-result b a w (λ p. is_element (first_part p) v) t g h
  binary-of RanRes a b base v w t f g i h = range_part-result a b v (λ p. is_element (second_of p) w) t f h
  binary-of DomSub a b base v w t f g i h = domain_part-result b a w (λ p. not (is_element (first_part p) v)) t g h
  binary-of RanSub a b base v w t f g i h = range_part-result a b v (λ p. not (is_element (second_of p) w)) t f h
  binary-of Over a b base v w t f g i h = override-result a b v w t f g h
  binary-of Maps a b base v w t f g i h = pair-result a b v w t f g h
  binary-of Range a b base v w t f g i h = interval-result a b (number_in v) (number_in w) t h
  binary-of Add a b base v w t f g i h = number-result a b (number_in (binary_value Add base v w)) t h
  binary-of Sub a b base v w t f g i h = number-result a b (number_in (binary_value Sub base v w)) t h
  binary-of Mul a b base v w t f g i h = number-result a b (number_in (binary_value Mul base v w)) t h
  binary-of Div a b base v w t f g i h = number-result a b (number_in (binary_value Div base v w)) t h
  binary-of Mod a b base v w t f g i h = number-result a b (number_in (binary_value Mod base v w)) t h
  binary-of Power a b base v w t f g i h = number-result a b (number_in (binary_value Power base v w)) t h
  binary-of Image a b base v w t f g i h = image-result a b v w t f h
  binary-of Apply a b base v w t f g i h = application-result a b base v w t f i h
  binary-of Comp a b base v w t f g i h = composition-result a b v w t f g h
