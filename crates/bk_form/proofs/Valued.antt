-- A formula that gives a type has a value of it in every typed environment.
use Rattle.std.proofs.Common.{◌≡◌, inl, inr, ℕ, zero, suc, ◌+◌, ◌<◌, List, [], ◌∷◌, length, map, refl, sym, ◌∙◌, ap, subst, Bool, true, false, nat_eq, nat_lt, arith, rules}
use Rattle.std.specs.Prelude.{Option, Some, None, slice_get, All, IsTrue}
use Rattle.std.specs.Option.{option_map, option_map_or}
use Rattle.std.proofs.lemmas.List.Elements.{All-head, All-tail}
use Rattle.std.proofs.lemmas.Bool.Decides.{nat_tests}
use Rattle.bk_val.specs.Value.{MathValue, int, bool, elem, pair, set, none}
use Rattle.bk_val.specs.ValueType.{ValueType, int_type, bool_type, enum_type, pair_type, set_type, base_of, is_value_of, are_of_types}
use Rattle.bk_form.specs.Table.{Table, VariableEntry, listed_size, set_size, variable_type, is_among_sets, lists_type, IsWellFormed}
use Rattle.bk_form.specs.Formula.{Formula, variable, bound, literal, truth_value, element, empty_set, named, btrue, bfalse, unary, binary, for_all, for_some, comprehension, lambda, Formulas, no_formulas, formula_and}
use Rattle.bk_form.specs.Search.{Finder}
use Rattle.bk_form.specs.Environment.{Environment, Binding, bindings, bound_types, under, all_typed, IsTyped, State, IsTypedState, at_state}
use Rattle.bk_form.specs.Role.{Role, gives, if_predicate, if_value, given_by, empty_role, element_role, named_role, role, binary_role, bind, gives_set, each_gives_set, are_ranges, element_type, tuple_type_onto, tuple_type}
use Rattle.bk_form.specs.Operators.{elements, set_value, elements_from, named_value, tuple_onto, tuple_of, choices}
use Rattle.bk_form.specs.Meaning.{Meaning, meaning, meanings, value, truth, bound_meaning, type_in, roles_of, range_types, chosen}
use Rattle.bk_form.specs.declared.operator.Domain.{Domain}
use Rattle.bk_form.specs.declared.operator.Domain.TheVariants.{Bool as Booleans, Enum}
use Rattle.bk_form.proofs.Counted.{size-listed, listed-count, size-count}
use Rattle.bk_form.proofs.Members.{Has, Has-map-then, Has-filter-then, Has-flat_map-then, elements-then, and-true, and-both}
use Rattle.bk_form.proofs.Roles.{if_holds-gives, if_predicate-gives, if_value-gives, meaning-role, types-bind}
use Rattle.bk_form.proofs.Givers.{quantifier-gives, value-meaning}
use Rattle.bk_form.specs.Laws.{IsSoundTyping}
use Rattle.bk_form.proofs.Listed.{gives-same, Lists, gives-listed}
use Rattle.bk_form.proofs.Typed.{Of, OfRole, set-of, elements-of, unary-of, binary-of}

nat_eq-self : (n : ℕ) → nat_eq n n ≡ true
nat_eq-self n = grind (arith, nat_tests)

-- ---- the facts of a table
listed-at : (count : ℕ) (vars : List VariableEntry) → All (λ v. IsTrue (is_among_sets count v.of_type)) vars → (n : ℕ) (t : ValueType) → option_map (λ v. v.of_type) (slice_get vars n) ≡ Some t → is_among_sets count t ≡ true
listed-at count [] h n t e = absurd (cc)
listed-at count (v ∷ vars) h zero t e = let q : v.of_type ≡ t = cc in subst (λ x. is_among_sets count x ≡ true) q (true-then (is_among_sets count v.of_type) (All-head (λ v. IsTrue (is_among_sets count v.of_type)) v vars h))
  where
    true-then : (b : Bool) → IsTrue b → b ≡ true
    true-then true h = refl
    true-then false h = absurd (search (rules, h))
listed-at count (v ∷ vars) h (suc n) t e = listed-at count vars (All-tail (λ v. IsTrue (is_among_sets count v.of_type)) v vars h) n t e

-- ---- base values
pub base-of : (table : Table) → IsWellFormed table → (t : ValueType) → Lists table t → Of (set_size table) t (base_of t)
base-of table w int_type l = refl
base-of table w bool_type l = refl
base-of table w (enum_type n) l = and-true (nat_eq n n) (nat_lt 0 (set_size table n)) (nat_eq-self n) (listed-count table n l)
base-of table w (pair_type t u) l = let k = and-both (lists_type table t) (lists_type table u) l in and-true (is_value_of (set_size table) t (base_of t)) (is_value_of (set_size table) u (base_of u)) (base-of table w t k.0) (base-of table w u k.1)
base-of table w (set_type t) l = refl

-- a set of which an element types is listed
element-lists : (table : Table) (s i : ℕ) → element_role table s i ≡ gives (enum_type s) → Lists table (enum_type s)
element-lists table s i h = size-listed table s i (if_holds-gives (nat_lt i (listed_size table s)) (gives (enum_type s)) (enum_type s) h).0

-- ---- bound numbers
typed-bind : (sizes : ℕ → ℕ) (ts : List ValueType) (vs : List MathValue) (bs : List Binding) → are_of_types sizes ts vs ≡ true → all_typed sizes bs ≡ true → all_typed sizes (bind (bindings ts vs) bs) ≡ true
typed-bind sizes [] vs bs h k = k
typed-bind sizes (t ∷ ts) [] bs h k = absurd (cc)
typed-bind sizes (t ∷ ts) (v ∷ vs) bs h k = let m = and-both (is_value_of sizes t v) (are_of_types sizes ts vs) h in typed-bind sizes ts vs ((t, v) ∷ bs) m.1 (and-true (is_value_of sizes t v) (all_typed sizes bs) m.0 k)

pub under-typed : (e : Environment) (ts : List ValueType) (vs : List MathValue) → IsTyped e → are_of_types (set_size e.table) ts vs ≡ true → IsTyped (under e ts vs)
under-typed e ts vs h o = record { variables = h.variables; bound_numbers = typed-bind (set_size e.table) ts vs e.bound o h.bound_numbers }

bound-of : (table : Table) (bs : List Binding) (n : ℕ) → all_typed (set_size table) bs ≡ true → OfRole (set_size table) (bound_meaning table (slice_get bs n)).role (bound_meaning table (slice_get bs n)).value
bound-of table [] zero h t r = absurd (cc)
bound-of table [] (suc n) h t r = absurd (cc)
bound-of table (b ∷ bs) zero h t r =
    let k = if_holds-gives (lists_type table b.0) (gives b.0) t r in
    subst (λ x. Of (set_size table) x b.1) (gives-same b.0 t k.1) (and-both (is_value_of (set_size table) b.0 b.1) (all_typed (set_size table) bs) h).0
bound-of table (b ∷ bs) (suc n) h t r = bound-of table bs n (and-both (is_value_of (set_size table) b.0 b.1) (all_typed (set_size table) bs) h).1 t r

-- ---- tuples
module _ (sizes : ℕ → ℕ) where
  tuple_onto-of : (t : ValueType) (ts : List ValueType) (v : MathValue) (vs : List MathValue) → Of sizes t v → are_of_types sizes ts vs ≡ true → Of sizes (tuple_type_onto t ts) (tuple_onto v vs)
  tuple_onto-of t [] v [] h k = h
  tuple_onto-of t [] v (w ∷ ws) h k = absurd (cc)
  tuple_onto-of t (u ∷ us) v [] h k = absurd (cc)
  tuple_onto-of t (u ∷ us) v (w ∷ ws) h k = let m = and-both (is_value_of sizes u w) (are_of_types sizes us ws) k in tuple_onto-of (pair_type t u) us (pair v w) ws (and-true (is_value_of sizes t v) (is_value_of sizes u w) h m.0) m.1

  tuple-of : (ts : List ValueType) (vs : List MathValue) → are_of_types sizes ts vs ≡ true → Of sizes (tuple_type ts) (tuple_of vs)
  tuple-of [] [] h = refl
  tuple-of [] (v ∷ vs) h = absurd (cc)
  tuple-of (t ∷ ts) [] h = absurd (cc)
  tuple-of (t ∷ ts) (v ∷ vs) h = let m = and-both (is_value_of sizes t v) (are_of_types sizes ts vs) h in tuple_onto-of t ts v vs m.0 m.1

  -- each range has a value of its role
  abbrev pub AllOf : List Meaning → Type 0
  AllOf [] = Unit {0}
  AllOf (m ∷ ms) = OfRole sizes m.role m.value × AllOf ms

  range-of : (m : Meaning) → OfRole sizes m.role m.value → gives_set m.role ≡ true → (v : MathValue) → Has v (elements m.value) → Of sizes (element_type m.role) v
  range-of m f h v k = by_role m.role refl h
    where
      by_role : (r : Role) → m.role ≡ r → gives_set r ≡ true → Of sizes (element_type r) v
      by_role (gives (set_type t)) e g = elements-of sizes t m.value v (f (set_type t) e) k
      by_role _ e g = absurd (cc)

  pub choices-of : (ms : List Meaning) → AllOf ms → each_gives_set (roles_of ms) ≡ true → (vs : List MathValue) → Has vs (choices (map (λ m. m.value) ms)) → are_of_types sizes (range_types ms) vs ≡ true
  choices-of [] f g vs (inl h) = subst (λ x. are_of_types sizes [] x ≡ true) (sym h) refl
  choices-of [] f g vs (inr h) = absurd h
  choices-of (m ∷ ms) f g vs h =
      let k = and-both (gives_set m.role) (each_gives_set (roles_of ms)) g in
      let rest = choices (map (λ m. m.value) ms) in
      let w = Has-flat_map-then (λ v. map (λ ws. v ∷ ws) rest) vs (elements m.value) h in
      let x = Has-map-then (λ ws. w.0 ∷ ws) vs rest w.2 in
      subst (λ y. are_of_types sizes (range_types (m ∷ ms)) y ≡ true) (sym x.2) (and-true (is_value_of sizes (element_type m.role) w.0) (are_of_types sizes (range_types ms) x.0) (range-of m f.0 k.0 w.0 w.1) (choices-of ms f.1 k.1 x.0 x.1))

ranges-give : (rs : List Role) → are_ranges rs ≡ true → each_gives_set rs ≡ true
ranges-give [] h = absurd (cc)
ranges-give (r ∷ rs) h = h

empty-of : (table : Table) (u t : ValueType) → empty_role table u ≡ gives t → Of (set_size table) t (set none)
empty-of table (set_type u) t h = let k = if_holds-gives (lists_type table u) (gives (set_type u)) t h in subst (λ x. Of (set_size table) x (set none)) (gives-same (set_type u) t k.1) refl
empty-of table _ t h = absurd (cc)

booleans-of : (sizes : ℕ → ℕ) (v : MathValue) → Has v (bool false ∷ bool true ∷ []) → Of sizes bool_type v
booleans-of sizes v (inl h) = subst (Of sizes bool_type) (sym h) refl
booleans-of sizes v (inr (inl h)) = subst (Of sizes bool_type) (sym h) refl
booleans-of sizes v (inr (inr h)) = absurd h

enumerated-of : (sizes : ℕ → ℕ) (n : ℕ) (v : MathValue) → Has v (elements_from n 0 (sizes n)) → Of sizes (enum_type n) v
enumerated-of sizes n v h = let w = elements-then n (sizes n) 0 v h in subst (Of sizes (enum_type n)) (sym w.1) (and-true (nat_eq n n) (nat_lt w.0 (sizes n)) (nat_eq-self n) (below w.0 (sizes n) w.3))
  where
    below : (i n : ℕ) → i < 0 + n → nat_lt i n ≡ true
    below i n h = grind (arith, nat_tests)

named-of : (table : Table) (d : Domain) (t : ValueType) → named_role table d ≡ gives t → Of (set_size table) t (named_value (set_size table) d)
named-of table Booleans t h = subst (λ x. Of (set_size table) x (named_value (set_size table) Booleans)) (gives-same (set_type bool_type) t h) (set-of (set_size table) bool_type (bool false ∷ bool true ∷ []) (booleans-of (set_size table)))
named-of table (Enum n) t h =
    let k = if_holds-gives (lists_type table (enum_type n)) (gives (set_type (enum_type n))) t h in
    subst (λ x. Of (set_size table) x (named_value (set_size table) (Enum n))) (gives-same (set_type (enum_type n)) t k.1) (set-of (set_size table) (enum_type n) (elements_from n 0 (set_size table n)) (enumerated-of (set_size table) n))
named-of table _ t h = absurd (cc)

variable-of : (e : Environment) → IsTyped e → (n : ℕ) (o : Option ValueType) → variable_type e.table n ≡ o → (t : ValueType) → given_by o ≡ gives t → Of (set_size e.table) t (e.state n)
variable-of e h n None q t r = absurd (cc)
variable-of e h n (Some u) q t r = subst (λ x. Of (set_size e.table) x (e.state n)) (gives-same u t r) (h.variables n u q)

type_in-gives : (r : Role) (t : ValueType) → r ≡ gives t → type_in r ≡ t
type_in-gives r t h = ap type_in h

module _ (find : Finder) where
  -- the base value of what a binary operator gives
  base-fits : (e : Environment) → IsWellFormed e.table → (f : Formula) (t : ValueType) → (meaning find e f).role ≡ gives t → (u : ValueType) → u ≡ t → Of (set_size e.table) u (base_of (type_in (meaning find e f).role))
  base-fits e w f t h u q =
      let l = gives-listed e.table (listed-at (length e.table.sets) e.table.variables w.listed) (element-lists e.table) (bound_types e) f t (sym (meaning-role find e f) ∙ h) in
      subst (λ x. Of (set_size e.table) x (base_of (type_in (meaning find e f).role))) (sym q) (subst (λ x. Of (set_size e.table) t (base_of x)) (sym (type_in-gives (meaning find e f).role t h)) (base-of e.table w t l))

  mutual
    pub value-of : (e : Environment) → IsWellFormed e.table → IsTyped e → (f : Formula) → OfRole (set_size e.table) (meaning find e f).role (value find e f)
    value-of e w h (variable n) t r = variable-of e h n (variable_type e.table n) refl t r
    value-of e w h (bound n) t r = bound-of e.table e.bound n h.bound_numbers t r
    value-of e w h (literal z) t r = subst (λ x. Of (set_size e.table) x (int z)) (gives-same int_type t r) refl
    value-of e w h (truth_value b) t r = subst (λ x. Of (set_size e.table) x (bool b)) (gives-same bool_type t r) refl
    value-of e w h (element s i) t r =
        let k = if_holds-gives (nat_lt i (listed_size e.table s)) (gives (enum_type s)) t r in
        subst (λ x. Of (set_size e.table) x (elem s i)) (gives-same (enum_type s) t k.1) (and-true (nat_eq s s) (nat_lt i (set_size e.table s)) (nat_eq-self s) (size-count e.table s i k.0))
    value-of e w h (empty_set u) t r = empty-of e.table u t r
    value-of e w h (named d) t r = named-of e.table d t r
    value-of e w h btrue t r = absurd (cc)
    value-of e w h bfalse t r = absurd (cc)
    value-of e w h (unary o a) t r = unary-of (set_size e.table) o (meaning find e a).role (value find e a) (truth find e a) (value-of e w h a) t r
    value-of e w h (binary o a b) t r = binary-of (set_size e.table) o (meaning find e a).role (meaning find e b).role (base_of (type_in (binary_role o (meaning find e a).role (meaning find e b).role))) (value find e a) (value find e b) t (value-of e w h a) (value-of e w h b) (base-fits e w (binary o a b) t r) r
    value-of e w h (for_all ts p) t r = absurd (quantifier-gives e.table ts (meaning find (under e ts []) p).role t r)
    value-of e w h (for_some ts p) t r = absurd (quantifier-gives e.table ts (meaning find (under e ts []) p).role t r)
    value-of e w h (comprehension rs p) t r =
        let ms = meanings find e rs in
        let ts = range_types ms in
        let body : List MathValue → Meaning = λ vs. meaning find (under e ts vs) p in
        let k = if_holds-gives (are_ranges (roles_of ms)) (if_predicate (gives (set_type (tuple_type ts))) (body []).role) t r in
        let m = if_predicate-gives (gives (set_type (tuple_type ts))) (body []).role t k.1 in
        let of_range = choices-of (set_size e.table) ms (values-of e w h rs) (ranges-give (roles_of ms) k.0) in
        subst (λ x. Of (set_size e.table) x (set_value (map tuple_of (chosen ms body)))) (gives-same (set_type (tuple_type ts)) t m.1)
        (set-of (set_size e.table) (tuple_type ts) (map tuple_of (chosen ms body)) (λ v o.
        let x = Has-map-then tuple_of v (chosen ms body) o in
        let y = Has-filter-then (λ vs. (body vs).truth) x.0 (choices (map (λ m. m.value) ms)) x.1 in
        subst (Of (set_size e.table) (tuple_type ts)) (sym x.2) (tuple-of (set_size e.table) ts x.0 (of_range x.0 y.0))))
    value-of e w h (lambda rs p v) t r =
        let ms = meanings find e rs in
        let ts = range_types ms in
        let body : List MathValue → Meaning = λ vs. meaning find (under e ts vs) p in
        let image : List MathValue → Meaning = λ vs. meaning find (under e ts vs) v in
        let k = if_holds-gives (are_ranges (roles_of ms)) (if_predicate (if_value (λ u. gives (set_type (pair_type (tuple_type ts) u))) (image []).role) (body []).role) t r in
        let m = if_predicate-gives (if_value (λ u. gives (set_type (pair_type (tuple_type ts) u))) (image []).role) (body []).role t k.1 in
        let n = if_value-gives (λ u. gives (set_type (pair_type (tuple_type ts) u))) (image []).role t m.1 in
        let of_range = choices-of (set_size e.table) ms (values-of e w h rs) (ranges-give (roles_of ms) k.0) in
        let result : List MathValue → MathValue = λ vs. pair (tuple_of vs) (image vs).value in
        let image_role = λ (vs : List MathValue). meaning-role find (under e ts vs) v ∙ ap (λ bs. role e.table bs v) (types-bind ts vs e.bound ∙ sym (types-bind ts [] e.bound)) ∙ sym (meaning-role find (under e ts []) v) ∙ n.1 in
        subst (λ x. Of (set_size e.table) x (set_value (map result (chosen ms body)))) (gives-same (set_type (pair_type (tuple_type ts) n.0)) t n.2)
        (set-of (set_size e.table) (pair_type (tuple_type ts) n.0) (map result (chosen ms body)) (λ z o.
        let x = Has-map-then result z (chosen ms body) o in
        let y = Has-filter-then (λ vs. (body vs).truth) x.0 (choices (map (λ m. m.value) ms)) x.1 in
        let fits = of_range x.0 y.0 in
        subst (Of (set_size e.table) (pair_type (tuple_type ts) n.0)) (sym x.2)
        (and-true (is_value_of (set_size e.table) (tuple_type ts) (tuple_of x.0)) (is_value_of (set_size e.table) n.0 (image x.0).value) (tuple-of (set_size e.table) ts x.0 fits) (value-of (under e ts x.0) w (under-typed e ts x.0 h fits) v n.0 (image_role x.0)))))

    values-of : (e : Environment) → IsWellFormed e.table → IsTyped e → (fs : Formulas) → AllOf (set_size e.table) (meanings find e fs)
    values-of e w h no_formulas = tt
    values-of e w h (formula_and f fs) = (value-of e w h f, values-of e w h fs)

  -- by the typing of the formula
  pub typed-value : (e : Environment) → IsWellFormed e.table → IsTyped e → (f : Formula) (t : ValueType) → role e.table (bound_types e) f ≡ gives t → is_value_of (set_size e.table) t (value find e f) ≡ true
  typed-value e w h f t r = value-of e w h f t (meaning-role find e f ∙ r)

pub sound_typing : IsSoundTyping
sound_typing = record {
  base = base-of;
  typed = typed-value;
  members = λ find e f t r v. ap (λ (m : Meaning). m.contains v) (value-meaning find e f t (meaning-role find e f ∙ r));
}

-- a typed state, under no binder, is a typed environment
pub state-typed : (table : Table) (e : State) → IsTypedState table e → IsTyped (at_state table e)
state-typed table e h = record { variables = h.typed; bound_numbers = refl }
