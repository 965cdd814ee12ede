-- Which values are members of the sets that the operators make.
use Rattle.std.proofs.Common.{◌≡◌, ◌↔◌, ◌<◌, inl, inr, ℕ, List, [], ◌∷◌, map, refl, sym, ◌∙◌, ap, subst, Bool, true, false, ◌&&◌, ◌||◌, not, nat_eq, nat_lt, arith}
use Rattle.std.proofs.lemmas.Bool.Decides.{nat_tests}
use Rattle.std.specs.List.{filter, list_all}
use Rattle.bk_val.specs.Value.{MathValue, int, bool, elem, pair, set, none, more, list_of}
use Rattle.bk_val.specs.ValueType.{ValueType, pair_type, set_type}
use Rattle.bk_val.specs.Sets.{has, union_of, inter_of, minus_of, overridden_of, in_domain, second_of, image_of}
use Rattle.bk_val.specs.CmpLaws.{same_value, value_eq-self}
use Rattle.bk_val.proofs.Elements.{has-union_of, has-filter}
use Rattle.bk_val.proofs.Relations.{overridden_of-pairs, pair_from_in_domain, in_domain_from_pair, image_of-members}
use Rattle.bk_form.specs.Table.{set_size}
use Rattle.bk_form.specs.Formula.{Formula, empty_set, named, unary, binary}
use Rattle.bk_form.specs.Search.{Finder}
use Rattle.bk_form.specs.Environment.{Environment, bound_types}
use Rattle.bk_form.specs.Role.{Role, gives, ranges_over, untyped, role}
use Rattle.bk_form.specs.Operators.{elements, is_element, first_part, swapped, begins_with, composed, is_subset, is_empty}
use Rattle.bk_form.specs.Meaning.{value, truth, within}
use Rattle.bk_form.specs.declared.operator.Domain.TheVariants.{Bool as Booleans, Enum}
use Rattle.bk_form.specs.declared.operator.UnOp.TheVariants.{Dom, Ran, Id, Inverse, Single, Pow, Pow1}
use Rattle.bk_form.specs.declared.operator.BinOp.TheVariants.{And, Or, In, Union, Inter, Minus, DomRes, RanRes, DomSub, Over, Comp, Image, Apply, RanSub}
use Rattle.bk_form.proofs.Members.{Has, has-then, has-if, both_ways, and-both, and-true, element-set_value, Has-map-then, Has-map-if, Has-filter-then, Has-filter-if, Has-flat_map-then, Has-flat_map-if}
use Rattle.bk_form.proofs.Givers.{power-gives}
use Rattle.bk_form.proofs.Typed.{Of, elements-of}
use Rattle.bk_form.proofs.Valued.{sound_typing}
use Rattle.bk_form.proofs.RoleParts.{power-parts, connective-parts, membership-parts, sets-parts, domain_part-parts, range_part-parts, override-parts, composition-parts, dom-parts, ran-parts}
use Rattle.bk_form.specs.Settings.{IsOver, IsSetting, IsPredicateIn, GivesIn, RangesIn}
use Rattle.bk_form.proofs.Forms.{pair-of, is_set_form, set-form, member}
use Rattle.bk_form.specs.MemberLaws.{OperatorMembers}

-- ---- types
rel-same : (t u v w : ValueType) → set_type (pair_type t u) ≡ set_type (pair_type v w) → (t ≡ v) × (u ≡ w)
rel-same t u v w h = (cc, cc)

set-same : (t u : ValueType) → set_type t ≡ set_type u → t ≡ u
set-same t u h = cc

module _ (find : Finder) (e : Environment) where
  module _ (a b : Formula) where
    pub or-parts : IsPredicateIn e (binary Or a b) → IsPredicateIn e a × IsPredicateIn e b
    or-parts h = connective-parts (role e.table (bound_types e) a) (role e.table (bound_types e) b) h

    pub and-parts : IsPredicateIn e (binary And a b) → IsPredicateIn e a × IsPredicateIn e b
    and-parts h = connective-parts (role e.table (bound_types e) a) (role e.table (bound_types e) b) h

    pub in-parts : IsPredicateIn e (binary In a b) → (t : ValueType) × GivesIn e a t × RangesIn e b t
    in-parts h = membership-parts (role e.table (bound_types e) a) (role e.table (bound_types e) b) h

    -- both are sets of one type
    pub two-sets : (t : ValueType) → GivesIn e (binary Union a b) (set_type t) → GivesIn e a (set_type t) × GivesIn e b (set_type t)
    two-sets t h =
        let k = sets-parts (role e.table (bound_types e) a) (role e.table (bound_types e) b) (set_type t) h in
        let same = ap (λ x. gives (set_type x)) (sym (set-same t k.0 k.3)) in
        (k.1 ∙ same, k.2 ∙ same)

    -- ---- union, intersection, difference
    pub in-union : (t : ValueType) → GivesIn e (binary Union a b) (set_type t) → (v : MathValue) → within find e v (binary Union a b) ≡ (within find e v a || within find e v b)
    in-union t h v =
        let k = two-sets t h in
        element-set_value (union_of (elements (value find e a)) (elements (value find e b))) v ∙ has-union_of (elements (value find e a)) (elements (value find e b)) v ∙ rw (member find e a t k.0 v, member find e b t k.1 v)

    pub in-inter : (t : ValueType) → GivesIn e (binary Inter a b) (set_type t) → (v : MathValue) → within find e v (binary Inter a b) ≡ (within find e v a && within find e v b)
    in-inter t h v =
        let k = two-sets t h in
        element-set_value (inter_of (elements (value find e a)) (elements (value find e b))) v ∙ has-filter (has (elements (value find e b))) (elements (value find e a)) v ∙ rw (member find e a t k.0 v, member find e b t k.1 v)

    pub in-minus : (t : ValueType) → GivesIn e (binary Minus a b) (set_type t) → (v : MathValue) → within find e v (binary Minus a b) ≡ (within find e v a && not (within find e v b))
    in-minus t h v =
        let k = two-sets t h in
        element-set_value (minus_of (elements (value find e a)) (elements (value find e b))) v ∙ has-filter (λ x. not (has (elements (value find e b)) x)) (elements (value find e a)) v ∙ rw (member find e a t k.0 v, member find e b t k.1 v)

    -- ---- restriction
    pub dom-part : (t u : ValueType) → GivesIn e (binary DomRes a b) (set_type (pair_type t u)) → GivesIn e a (set_type t) × GivesIn e b (set_type (pair_type t u))
    dom-part t u h =
        let k = domain_part-parts (role e.table (bound_types e) b) (role e.table (bound_types e) a) (set_type (pair_type t u)) h in
        let q = rel-same t u k.0 k.1 k.4 in
        (subst (λ x. GivesIn e a (set_type x)) (sym q.0) k.3, subst (λ x. GivesIn e b x) (sym k.4) k.2)

    pub ran-part : (t u : ValueType) → GivesIn e (binary RanRes a b) (set_type (pair_type t u)) → GivesIn e a (set_type (pair_type t u)) × GivesIn e b (set_type u)
    ran-part t u h =
        let k = range_part-parts (role e.table (bound_types e) a) (role e.table (bound_types e) b) (set_type (pair_type t u)) h in
        let q = rel-same t u k.0 k.1 k.4 in
        (subst (λ x. GivesIn e a x) (sym k.4) k.2, subst (λ x. GivesIn e b (set_type x)) (sym q.1) k.3)

    pub two-relations : (t u : ValueType) → GivesIn e (binary Over a b) (set_type (pair_type t u)) → GivesIn e a (set_type (pair_type t u)) × GivesIn e b (set_type (pair_type t u))
    two-relations t u h =
        let k = override-parts (role e.table (bound_types e) a) (role e.table (bound_types e) b) (set_type (pair_type t u)) h in
        (subst (λ x. GivesIn e a x) (sym k.4) k.2, subst (λ x. GivesIn e b x) (sym k.4) k.3)

    pub in-dom-res : (t u : ValueType) → GivesIn e (binary DomRes a b) (set_type (pair_type t u)) → (x y : MathValue) → within find e (pair x y) (binary DomRes a b) ≡ (within find e (pair x y) b && within find e x a)
    in-dom-res t u h x y =
        let k = dom-part t u h in
        let kept : MathValue → Bool = λ p. is_element (first_part p) (value find e a) in
        element-set_value (filter kept (elements (value find e b))) (pair x y) ∙ has-filter kept (elements (value find e b)) (pair x y) ∙ rw (member find e b (pair_type t u) k.1 (pair x y), member find e a t k.0 x)

    pub in-dom-sub : (t u : ValueType) → GivesIn e (binary DomSub a b) (set_type (pair_type t u)) → (x y : MathValue) → within find e (pair x y) (binary DomSub a b) ≡ (within find e (pair x y) b && not (within find e x a))
    in-dom-sub t u h x y =
        let k = dom-part t u h in
        let kept : MathValue → Bool = λ p. not (is_element (first_part p) (value find e a)) in
        element-set_value (filter kept (elements (value find e b))) (pair x y) ∙ has-filter kept (elements (value find e b)) (pair x y) ∙ rw (member find e b (pair_type t u) k.1 (pair x y), member find e a t k.0 x)

    pub in-ran-res : (t u : ValueType) → GivesIn e (binary RanRes a b) (set_type (pair_type t u)) → (x y : MathValue) → within find e (pair x y) (binary RanRes a b) ≡ (within find e (pair x y) a && within find e y b)
    in-ran-res t u h x y =
        let k = ran-part t u h in
        let kept : MathValue → Bool = λ p. is_element (second_of p) (value find e b) in
        element-set_value (filter kept (elements (value find e a))) (pair x y) ∙ has-filter kept (elements (value find e a)) (pair x y) ∙ rw (member find e a (pair_type t u) k.0 (pair x y), member find e b u k.1 y)

    pub in-ran-sub : (t u : ValueType) → GivesIn e (binary RanSub a b) (set_type (pair_type t u)) → (x y : MathValue) → within find e (pair x y) (binary RanSub a b) ≡ (within find e (pair x y) a && not (within find e y b))
    in-ran-sub t u h x y =
        let k = ran-part t u h in
        let kept : MathValue → Bool = λ p. not (is_element (second_of p) (value find e b)) in
        element-set_value (filter kept (elements (value find e a))) (pair x y) ∙ has-filter kept (elements (value find e a)) (pair x y) ∙ rw (member find e a (pair_type t u) k.0 (pair x y), member find e b u k.1 y)

  module _ (c : IsSetting find e) where
    -- a member of a relation is a pair
    pub member-of : (f : Formula) (t : ValueType) → GivesIn e f (set_type t) → (v : MathValue) → within find e v f ≡ true → Of (set_size e.table) t v
    member-of f t h v k = elements-of (set_size e.table) t (value find e f) v (sound_typing.typed find e c.well c.typed f (set_type t) h) (has-then v (elements (value find e f)) (sym (member find e f t h v) ∙ k))

    pub dom-part-of : (r : Formula) (t : ValueType) → GivesIn e (unary Dom r) (set_type t) → (u : ValueType) × GivesIn e r (set_type (pair_type t u))
    dom-part-of r t h =
        let k = dom-parts (role e.table (bound_types e) r) (set_type t) h in
        (k.1, subst (λ x. GivesIn e r (set_type (pair_type x k.1))) (sym (set-same t k.0 k.3)) k.2)

    pub ran-part-of : (r : Formula) (u : ValueType) → GivesIn e (unary Ran r) (set_type u) → (t : ValueType) × GivesIn e r (set_type (pair_type t u))
    ran-part-of r u h =
        let k = ran-parts (role e.table (bound_types e) r) (set_type u) h in
        (k.0, subst (λ x. GivesIn e r (set_type (pair_type k.0 x))) (sym (set-same u k.1 k.3)) k.2)

    -- x is in dom(r) exactly where some pair x |-> y is in r
    pub in-dom : (r : Formula) (t u : ValueType) → GivesIn e r (set_type (pair_type t u)) → (x : MathValue) → (within find e x (unary Dom r) ≡ true) ↔ ((y : MathValue) × (within find e (pair x y) r ≡ true))
    in-dom r t u h x =
        let ps = elements (value find e r) in
        let of = sound_typing.typed find e c.well c.typed r (set_type (pair_type t u)) h in (
          (λ k.
              let m = Has-map-then first_part x ps (has-then x (map first_part ps) (sym (element-set_value (map first_part ps) x) ∙ k)) in
              let p = pair-of (set_size e.table) t u m.0 (elements-of (set_size e.table) (pair_type t u) (value find e r) m.0 of m.1) in
              let same : m.0 ≡ pair x p.right = p.is_pair ∙ ap (λ z. pair z p.right) (sym (m.2 ∙ ap first_part p.is_pair)) in
              (p.right, member find e r (pair_type t u) h (pair x p.right) ∙ has-if (pair x p.right) ps (subst (λ z. Has z ps) same m.1))),
          (λ w. element-set_value (map first_part ps) x ∙ has-if x (map first_part ps) (Has-map-if first_part x ps (pair x w.0) (has-then (pair x w.0) ps (sym (member find e r (pair_type t u) h (pair x w.0)) ∙ w.1)) refl)),
        )

    pub in-ran : (r : Formula) (t u : ValueType) → GivesIn e r (set_type (pair_type t u)) → (y : MathValue) → (within find e y (unary Ran r) ≡ true) ↔ ((x : MathValue) × (within find e (pair x y) r ≡ true))
    in-ran r t u h y =
        let ps = elements (value find e r) in
        let of = sound_typing.typed find e c.well c.typed r (set_type (pair_type t u)) h in (
          (λ k.
              let m = Has-map-then second_of y ps (has-then y (map second_of ps) (sym (element-set_value (map second_of ps) y) ∙ k)) in
              let p = pair-of (set_size e.table) t u m.0 (elements-of (set_size e.table) (pair_type t u) (value find e r) m.0 of m.1) in
              let same : m.0 ≡ pair p.left y = p.is_pair ∙ ap (λ z. pair p.left z) (sym (m.2 ∙ ap second_of p.is_pair)) in
              (p.left, member find e r (pair_type t u) h (pair p.left y) ∙ has-if (pair p.left y) ps (subst (λ z. Has z ps) same m.1))),
          (λ w. element-set_value (map second_of ps) y ∙ has-if y (map second_of ps) (Has-map-if second_of y ps (pair w.0 y) (has-then (pair w.0 y) ps (sym (member find e r (pair_type t u) h (pair w.0 y)) ∙ w.1)) refl)),
        )

    -- a pair is in r <+ s where it is in s, or in r and begins outside of dom(s)
    pub in-over : (r s : Formula) (t u : ValueType) → GivesIn e (binary Over r s) (set_type (pair_type t u)) → (x y : MathValue) → within find e (pair x y) (binary Over r s) ≡ ((within find e (pair x y) r && not (within find e x (unary Dom s))) || within find e (pair x y) s)
    in-over r s t u h x y =
        let k = two-relations r s t u h in
        let ps = elements (value find e s) in
        let d = in-dom s t u k.1 x in
        let begins : in_domain ps x ≡ within find e x (unary Dom s) = both_ways (in_domain ps x) (within find e x (unary Dom s))
        (λ m. let w = pair_from_in_domain ps x m in d.1 (w.0, member find e s (pair_type t u) k.1 (pair x w.0) ∙ w.1))
        (λ m. let w = d.0 m in in_domain_from_pair ps x w.0 (sym (member find e s (pair_type t u) k.1 (pair x w.0)) ∙ w.1)) in
        element-set_value (overridden_of (elements (value find e r)) ps) (pair x y) ∙ overridden_of-pairs (elements (value find e r)) ps x y ∙ rw (begins, member find e r (pair_type t u) k.0 (pair x y), member find e s (pair_type t u) k.1 (pair x y))

    -- ---- singletons, inverses, identities, compositions
    pub in-single : (a : Formula) (v : MathValue) → (within find e v (unary Single a) ≡ true) ↔ (v ≡ value find e a)
    in-single a v = (
      (λ h. elim (has-then v (value find e a ∷ []) (sym (element-set_value (value find e a ∷ []) v) ∙ h)) [ inl k ↦ k | inr k ↦ absurd k ]),
      (λ k. element-set_value (value find e a ∷ []) v ∙ has-if v (value find e a ∷ []) (inl k)),
    )

    pub in-inverse : (r : Formula) (t u : ValueType) → GivesIn e r (set_type (pair_type t u)) → (x y : MathValue) → within find e (pair y x) (unary Inverse r) ≡ within find e (pair x y) r
    in-inverse r t u h x y =
        let ps = elements (value find e r) in
        let of = sound_typing.typed find e c.well c.typed r (set_type (pair_type t u)) h in
        both_ways (within find e (pair y x) (unary Inverse r)) (within find e (pair x y) r)
        (λ k.
        let m = Has-map-then swapped (pair y x) ps (has-then (pair y x) (map swapped ps) (sym (element-set_value (map swapped ps) (pair y x)) ∙ k)) in
        let p = pair-of (set_size e.table) t u m.0 (elements-of (set_size e.table) (pair_type t u) (value find e r) m.0 of m.1) in
        let turned : pair y x ≡ pair p.right p.left = m.2 ∙ ap swapped p.is_pair in
        let same : m.0 ≡ pair x y = p.is_pair ∙ sym (ap swapped turned) in
        member find e r (pair_type t u) h (pair x y) ∙ has-if (pair x y) ps (subst (λ z. Has z ps) same m.1))
        (λ k. element-set_value (map swapped ps) (pair y x) ∙ has-if (pair y x) (map swapped ps) (Has-map-if swapped (pair y x) ps (pair x y) (has-then (pair x y) ps (sym (member find e r (pair_type t u) h (pair x y)) ∙ k)) refl))

    pub in-id : (s : Formula) (t : ValueType) → GivesIn e s (set_type t) → (x y : MathValue) → (within find e (pair x y) (unary Id s) ≡ true) ↔ ((within find e x s ≡ true) × (x ≡ y))
    in-id s t h x y =
        let xs = elements (value find e s) in
        let twice : MathValue → MathValue = λ z. pair z z in (
          (λ k.
              let m = Has-map-then twice (pair x y) xs (has-then (pair x y) (map twice xs) (sym (element-set_value (map twice xs) (pair x y)) ∙ k)) in
              let p : x ≡ m.0 = ap first_part m.2 in
              let q : y ≡ m.0 = ap second_of m.2 in
              (member find e s t h x ∙ has-if x xs (subst (λ z. Has z xs) (sym p) m.1), p ∙ sym q)),
          (λ w. element-set_value (map twice xs) (pair x y) ∙ has-if (pair x y) (map twice xs) (Has-map-if twice (pair x y) xs x (has-then x xs (sym (member find e s t h x) ∙ w.0)) (ap (pair x) (sym w.1)))),
        )

    pub comp-parts : (r s : Formula) (t u : ValueType) → GivesIn e (binary Comp r s) (set_type (pair_type t u)) → (v : ValueType) × GivesIn e r (set_type (pair_type t v)) × GivesIn e s (set_type (pair_type v u))
    comp-parts r s t u h =
        let k = composition-parts (role e.table (bound_types e) r) (role e.table (bound_types e) s) (set_type (pair_type t u)) h in
        let q = rel-same t u k.0 k.2 k.5 in
        (k.1, subst (λ x. GivesIn e r (set_type (pair_type x k.1))) (sym q.0) k.3, subst (λ x. GivesIn e s (set_type (pair_type k.1 x))) (sym q.1) k.4)

    -- x |-> z is in (r ; s) exactly where x |-> y is in r and y |-> z in s for some y
    pub in-comp : (r s : Formula) (t u : ValueType) → GivesIn e (binary Comp r s) (set_type (pair_type t u)) → (x z : MathValue) → (within find e (pair x z) (binary Comp r s) ≡ true) ↔ ((y : MathValue) × (within find e (pair x y) r ≡ true) × (within find e (pair y z) s ≡ true))
    in-comp r s t u h x z =
        let k = comp-parts r s t u h in
        let v = k.0 in
        let ps = elements (value find e r) in
        let qs = elements (value find e s) in
        let of_r = sound_typing.typed find e c.well c.typed r (set_type (pair_type t v)) k.1 in
        let of_s = sound_typing.typed find e c.well c.typed s (set_type (pair_type v u)) k.2 in
        let joined : MathValue → MathValue → MathValue = λ p q. pair (first_part p) (second_of q) in
        let after : MathValue → List MathValue = λ p. map (joined p) (filter (begins_with (second_of p)) qs) in (
          (λ g.
              let m = Has-flat_map-then after (pair x z) ps (has-then (pair x z) (composed ps qs) (sym (element-set_value (composed ps qs) (pair x z)) ∙ g)) in
              let n = Has-map-then (joined m.0) (pair x z) (filter (begins_with (second_of m.0)) qs) m.2 in
              let f = Has-filter-then (begins_with (second_of m.0)) n.0 qs n.1 in
              let p = pair-of (set_size e.table) t v m.0 (elements-of (set_size e.table) (pair_type t v) (value find e r) m.0 of_r m.1) in
              let q = pair-of (set_size e.table) v u n.0 (elements-of (set_size e.table) (pair_type v u) (value find e s) n.0 of_s f.0) in
              let begins : second_of m.0 ≡ first_part n.0 = same_value (second_of m.0) (first_part n.0) f.1 in
              let left : x ≡ p.left = ap first_part n.2 ∙ ap first_part p.is_pair in
              let right : z ≡ q.right = ap second_of n.2 ∙ ap second_of q.is_pair in
              let middle : p.right ≡ q.left = sym (ap second_of p.is_pair) ∙ begins ∙ ap first_part q.is_pair in (
                p.right,
                member find e r (pair_type t v) k.1 (pair x p.right) ∙ has-if (pair x p.right) ps (subst (λ w. Has w ps) (p.is_pair ∙ ap (λ w. pair w p.right) (sym left)) m.1),
                member find e s (pair_type v u) k.2 (pair p.right z) ∙ has-if (pair p.right z) qs (subst (λ w. Has w qs) (q.is_pair ∙ (λ i. pair (sym middle i) (sym right i))) f.0),
              )),
          (λ w.
              let p = has-then (pair x w.0) ps (sym (member find e r (pair_type t v) k.1 (pair x w.0)) ∙ w.1) in
              let q = has-then (pair w.0 z) qs (sym (member find e s (pair_type v u) k.2 (pair w.0 z)) ∙ w.2) in
              element-set_value (composed ps qs) (pair x z) ∙ has-if (pair x z) (composed ps qs)
              (Has-flat_map-if after (pair x z) ps (pair x w.0) p (Has-map-if (joined (pair x w.0)) (pair x z) (filter (begins_with w.0) qs) (pair w.0 z) (Has-filter-if (begins_with w.0) (pair w.0 z) qs q (value_eq-self w.0)) refl))),
        )

-- ---- members of what ranges over other sets
over-gives : (e : Environment) (f : Formula) (t u : ValueType) → RangesIn e f t → GivesIn e f u → u ≡ set_type t
over-gives e f t u (inl h) k = cc
over-gives e f t u (inr h) k = let q : ranges_over t ≡ gives u = sym h ∙ k in absurd (cc)

-- a set value that is over t gives the sets of t
pub from-gives : (e : Environment) (f : Formula) (t u : ValueType) → RangesIn e f t → GivesIn e f u → GivesIn e f (set_type t)
from-gives e f t u h k = subst (λ x. GivesIn e f x) (over-gives e f t u h k) k

pub over-typed : (r : Role) (t : ValueType) → IsOver t r → r ≡ untyped → ⊥
over-typed r t (inl h) k = let q : gives (set_type t) ≡ untyped = sym h ∙ k in cc
over-typed r t (inr h) k = let q : ranges_over t ≡ untyped = sym h ∙ k in cc

-- a term in a form that is a set
pub in-set-parts : (find : Finder) (e : Environment) (a b : Formula) → is_set_form b ≡ true → IsPredicateIn e (binary In a b) → (t : ValueType) × GivesIn e a t × GivesIn e b (set_type t)
in-set-parts find e a b form h =
    let k = in-parts find e a b h in
    let w = set-form e b form (over-typed (role e.table (bound_types e) b) k.0 k.2) in
    (k.0, k.1, from-gives e b k.0 (set_type w.0) k.2 w.1)

pub list-all-has : (test : MathValue → Bool) (xs : List MathValue) (x : MathValue) → list_all test xs ≡ true → Has x xs → test x ≡ true
list-all-has test [] x h k = absurd k
list-all-has test (y ∷ ys) x h (inl k) = ap test k ∙ (and-both (test y) (list_all test ys) h).0
list-all-has test (y ∷ ys) x h (inr k) = list-all-has test ys x (and-both (test y) (list_all test ys) h).1 k

pub has-list-all : (test : MathValue → Bool) (xs : List MathValue) → ((x : MathValue) → Has x xs → test x ≡ true) → list_all test xs ≡ true
has-list-all test [] h = refl
has-list-all test (y ∷ ys) h = and-true (test y) (list_all test ys) (h y (inl refl)) (has-list-all test ys (λ x k. h x (inr k)))

subset-then : (test : MathValue → Bool) (s x : MathValue) → is_subset test s ≡ true → is_element x s ≡ true → test x ≡ true
subset-then test (set vs) x h k = list-all-has test (list_of vs) x h (has-then x (list_of vs) k)
subset-then test _ x h k = absurd (cc)

-- s is in POW(a) exactly where each member of s is in a
module _ (find : Finder) (e : Environment) (c : IsSetting find e) where
  pub in-power : (s a : Formula) (t : ValueType) → GivesIn e s (set_type t) → (truth find e (binary In s (unary Pow a)) ≡ true) ↔ ((x : MathValue) → within find e x s ≡ true → within find e x a ≡ true)
  in-power s a t h = (
    (λ k x m. subset-then (λ v. within find e v a) (value find e s) x k (sym (member find e s t h x) ∙ m)),
    (λ k. by_value (value find e s) refl (sound_typing.typed find e c.well c.typed s (set_type t) h) (λ x m. k x (member find e s t h x ∙ has-if x (elements (value find e s)) m))),
  )
    where
      by_value : (v : MathValue) → value find e s ≡ v → Of (set_size e.table) (set_type t) v → ((x : MathValue) → Has x (elements v) → within find e x a ≡ true) → is_subset (λ v. within find e v a) v ≡ true
      by_value (set vs) q o k = has-list-all (λ v. within find e v a) (list_of vs) k
      by_value _ q o k = absurd (cc)

-- a set is not empty exactly where something is in it
some-then : (sizes : ℕ → ℕ) (t : ValueType) (v : MathValue) → Of sizes (set_type t) v → not (is_empty v) ≡ true → (x : MathValue) × Has x (elements v)
some-then sizes t (set none) o h = absurd (cc)
some-then sizes t (set (more x xs)) o h = (x, inl refl)
some-then sizes t _ o h = absurd (cc)

some-if : (v x : MathValue) → Has x (elements v) → not (is_empty v) ≡ true
some-if (set none) x h = absurd h
some-if (set (more y ys)) x h = refl
some-if _ x h = absurd h

-- s is in POW1(a) exactly where it is in POW(a) and has a member
module _ (find : Finder) (e : Environment) (c : IsSetting find e) where
  pub in-some-power : (s a : Formula) (t : ValueType) → GivesIn e s (set_type t) → (truth find e (binary In s (unary Pow1 a)) ≡ true) ↔ (((x : MathValue) → within find e x s ≡ true → within find e x a ≡ true) × ((x : MathValue) × (within find e x s ≡ true)))
  in-some-power s a t h =
      let all = truth find e (binary In s (unary Pow a)) in
      let some = not (is_empty (value find e s)) in
      let ss = elements (value find e s) in
      let p = in-power find e c s a t h in
      let of = sound_typing.typed find e c.well c.typed s (set_type t) h in (
        (λ k. let m = and-both all some k in let w = some-then (set_size e.table) t (value find e s) of m.1 in (p.0 m.0, (w.0, member find e s t h w.0 ∙ has-if w.0 ss w.1))),
        (λ k. and-true all some (p.1 k.0) (some-if (value find e s) k.1.0 (has-then k.1.0 ss (sym (member find e s t h k.1.0) ∙ k.1.1)))),
      )

-- y is in r[a] exactly where x |-> y is in r for some x in a
pub in-image : (find : Finder) (e : Environment) (r a : Formula) (t u : ValueType) → GivesIn e r (set_type (pair_type t u)) → GivesIn e a (set_type t) → (y : MathValue) → (within find e y (binary Image r a) ≡ true) ↔ ((x : MathValue) × (within find e x a ≡ true) × (within find e (pair x y) r ≡ true))
in-image find e r a t u h k y =
    let rs = elements (value find e r) in
    let xs = elements (value find e a) in
    let m = image_of-members rs xs y in (
      (λ g. let w = m.0 (sym (element-set_value (image_of rs xs) y) ∙ g) in (w.0, member find e a t k w.0 ∙ w.1.0, member find e r (pair_type t u) h (pair w.0 y) ∙ w.1.1)),
      (λ w. element-set_value (image_of rs xs) y ∙ m.1 (w.0, (sym (member find e a t k w.0) ∙ w.1, sym (member find e r (pair_type t u) h (pair w.0 y)) ∙ w.2))),
    )

pub in-power-parts : (find : Finder) (e : Environment) (s a : Formula) → IsPredicateIn e (binary In s (unary Pow a)) → (t : ValueType) × GivesIn e s (set_type t) × RangesIn e a t
in-power-parts find e s a h =
    let k = in-parts find e s (unary Pow a) h in
    elim k.2 [
      | inl g ↦ absurd (power-gives (role e.table (bound_types e) a) (set_type k.0) g)
      | inr g ↦ let p = power-parts (role e.table (bound_types e) a) k.0 g in (p.0, subst (λ x. GivesIn e s x) p.2 k.1, p.1)
    ]

-- ---- {}, BOOL and the enumerated sets
in-empty : (find : Finder) (e : Environment) (t : ValueType) (v : MathValue) → within find e v (empty_set t) ≡ false
in-empty find e t v = refl

in-booleans : (find : Finder) (e : Environment) (v : MathValue) → (within find e v (named Booleans) ≡ true) ↔ ((b : Bool) × (v ≡ bool b))
in-booleans find e v = (from v, λ k. ap (λ w. within find e w (named Booleans)) k.1 ∙ to k.0)
  where
    from : (w : MathValue) → within find e w (named Booleans) ≡ true → (b : Bool) × (w ≡ bool b)
    from (bool b) h = (b, refl)
    from (int z) h = absurd (cc)
    from (elem s i) h = absurd (cc)
    from (pair x y) h = absurd (cc)
    from (set vs) h = absurd (cc)

    to : (b : Bool) → within find e (bool b) (named Booleans) ≡ true
    to b = refl

in-enumerated : (find : Finder) (e : Environment) (n : ℕ) (v : MathValue) → (within find e v (named (Enum n)) ≡ true) ↔ ((i : ℕ) × (i < set_size e.table n) × (v ≡ elem n i))
in-enumerated find e n v = (from v, λ k. ap (λ w. within find e w (named (Enum n))) k.2 ∙ to k.0 k.1)
  where
    from : (w : MathValue) → within find e w (named (Enum n)) ≡ true → (i : ℕ) × (i < set_size e.table n) × (w ≡ elem n i)
    from (elem s i) h =
        let k = and-both (nat_eq s n) (nat_lt i (set_size e.table n)) h in
        let same : s ≡ n = grind (arith, nat_tests, k.0) in
        let low : i < set_size e.table n = grind (arith, nat_tests, k.1) in
        (i, low, ap (λ m. elem m i) same)
    from (bool b) h = absurd (cc)
    from (int z) h = absurd (cc)
    from (pair x y) h = absurd (cc)
    from (set vs) h = absurd (cc)

    to : (i : ℕ) → i < set_size e.table n → within find e (elem n i) (named (Enum n)) ≡ true
    to i low =
        let own : nat_eq n n ≡ true = grind (arith, nat_tests) in
        let below : nat_lt i (set_size e.table n) ≡ true = grind (arith, nat_tests) in
        and-true (nat_eq n n) (nat_lt i (set_size e.table n)) own below

pub operator_members : OperatorMembers
operator_members = record {
  empty = λ find e t v. in-empty find e t v;
  booleans = λ find e v. in-booleans find e v;
  enumerated = λ find e n v. in-enumerated find e n v;
  applied = λ find e f a t h v. sound_typing.members find e (binary Apply f a) (set_type t) h v;
  union = λ find e a b t h v. in-union find e a b t h v;
  inter = λ find e a b t h v. in-inter find e a b t h v;
  minus = λ find e a b t h v. in-minus find e a b t h v;
  product = λ find e a b x y. refl;
  domain_restricted = λ find e a b t u h x y. in-dom-res find e a b t u h x y;
  domain_subtracted = λ find e a b t u h x y. in-dom-sub find e a b t u h x y;
  range_restricted = λ find e a b t u h x y. in-ran-res find e a b t u h x y;
  range_subtracted = λ find e a b t u h x y. in-ran-sub find e a b t u h x y;
  domain = λ find e c r t u h x. in-dom find e c r t u h x;
  range = λ find e c r t u h y. in-ran find e c r t u h y;
  overridden = λ find e c r s t u h x y. in-over find e c r s t u h x y;
  single = λ find e c a v. in-single find e c a v;
  inverse = λ find e c r t u h x y. in-inverse find e c r t u h x y;
  identity = λ find e c s t h x y. in-id find e c s t h x y;
  composed = λ find e c r s t u h x z. in-comp find e c r s t u h x z;
  image = λ find e r a t u h k y. in-image find e r a t u h k y;
  power = λ find e c s a t h. in-power find e c s a t h;
  some_power = λ find e c s a t h. in-some-power find e c s a t h;
}
