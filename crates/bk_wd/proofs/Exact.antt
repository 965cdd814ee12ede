-- WD(F) is true exactly where F is defined.
use Rattle.std.proofs.Common.{◌≡◌, ◌↔◌, ℕ, zero, ◌+◌, List, [], ◌∷◌, length, map, refl, sym, ◌∙◌, ap, subst, true, not, ◌&&◌, arith}
use Rattle.std.specs.Prelude.{Some, slice_get}
use Rattle.std.specs.List.{list_all}
use Rattle.bk_val.specs.Value.{MathValue, MathValues, int, bool, elem, pair, set, none, more, list_of}
use Rattle.bk_val.specs.Sets.{has}
use Rattle.bk_val.specs.ValueType.{ValueType, int_type, bool_type, enum_type, pair_type, set_type, is_value_of, are_values_of, are_of_types}
use Rattle.bk_form.specs.Table.{set_size, IsWellFormed}
use Rattle.bk_form.specs.Formula.{Formula, bound, btrue, unary, binary, for_all, for_some, comprehension, lambda, Formulas, no_formulas, formula_and}
use Rattle.bk_form.specs.Search.{Finder, IsSearch}
use Rattle.bk_form.specs.Environment.{Environment, Binding, bindings, bound_types, under, IsTyped}
use Rattle.bk_form.specs.Role.{Role, gives, predicate, untyped, if_holds, if_predicate, if_value, if_set, if_relation, same_type, unary_role, binary_role, role, roles, bind, all_listed, are_ranges, gives_set, each_gives_set, element_type, element_types, tuple_type}
use Rattle.bk_form.specs.Operators.{elements, first_part, is_equal, is_function, is_subset, is_pair_of}
use Rattle.bk_form.specs.Replacement.{count}
use Rattle.bk_form.specs.Meaning.{meaning, meanings, value, truth, within, range_types, bound_meaning}
use Rattle.bk_form.specs.Defined.{Defined, AreDefined, LeftToRight, InRanges, has_element, unary_inside, binary_inside}
use Rattle.bk_form.specs.Laws.{TakesOneOfEach}
use Rattle.bk_form.specs.declared.operator.UnOp.{UnOp}
use Rattle.bk_form.specs.declared.operator.UnOp.TheVariants.{Min, Max, Dom}
use Rattle.bk_form.specs.declared.operator.BinOp.{BinOp}
use Rattle.bk_form.specs.declared.operator.BinOp.TheVariants.{And, Or, Imp, In, Div, Mod, Power, Apply}
use Rattle.bk_form.proofs.Members.{and-true, and-both, element-set_value}
use Rattle.bk_form.proofs.Domains.{choices-are}
use Rattle.bk_form.proofs.Roles.{meaning-role, meanings-role, types-bind}
use Rattle.bk_form.proofs.Valued.{under-typed, typed-value, sound_typing}
use Rattle.bk_form.proofs.Agreement.{length-ranges}
use Rattle.bk_form.specs.Wider.{IsTypedRole}
use Rattle.bk_form.specs.Lifting.{lifted}
use Rattle.bk_bind.proofs.Raised.{bindings-behind, meaning-lifted-under}
use Rattle.bk_wd.specs.Joining.{both, where_true, all_over}
use Rattle.bk_wd.specs.Operands.{right_met, sides_asked}
use Rattle.bk_wd.specs.WellDefined.{domain_of, functions_of, unary_own, binary_own, ranges_onto, in_ranges, defined, all_defined}
use Rattle.bk_wd.specs.Laws.{DefinedIsExact}
use Rattle.bk_wd.proofs.Conditions.{both-so, where-so, all_over-so, three-so, true-so, false-so}
use Rattle.bk_form.proofs.Operands.{holds-op, predicate-op, value-op, unary-op, binary-op}

-- ---- operators
-- a set has an element exactly where it is not the empty one
set-element : (sizes : ℕ → ℕ) (t : ValueType) (v : MathValue) → is_value_of sizes (set_type t) v ≡ true → not (is_equal v (set none)) ≡ has_element (elements v)
set-element sizes t (set none) h = refl
set-element sizes t (set (more v vs)) h = refl
set-element sizes t _ h = absurd (cc)

set-shape : (f : ValueType → Role) (r : Role) → IsTypedRole (if_set f r) → (t : ValueType) × (r ≡ gives (set_type t))
set-shape f (gives (set_type t)) h = (t, refl)
set-shape f _ h = absurd h

relation-shape : (f : ValueType → ValueType → Role) (r : Role) → IsTypedRole (if_relation f r) → (t : ValueType) × (u : ValueType) × (r ≡ gives (set_type (pair_type t u)))
relation-shape f (gives (set_type (pair_type t u))) h = (t, u, refl)
relation-shape f _ h = absurd h

module _ (find : Finder) (e : Environment) where
  mutual
    -- the values of a type are in its domain
    domain-has : (t : ValueType) (v : MathValue) → is_value_of (set_size e.table) t v ≡ true → within find e v (domain_of t) ≡ true
    domain-has int_type (int z) h = refl
    domain-has int_type _ h = absurd (cc)
    domain-has bool_type (bool b) h = refl
    domain-has bool_type _ h = absurd (cc)
    domain-has (enum_type n) (elem s i) h = h
    domain-has (enum_type n) _ h = absurd (cc)
    domain-has (pair_type t u) (pair v w) h = let k = and-both (is_value_of (set_size e.table) t v) (is_value_of (set_size e.table) u w) h in and-true (within find e v (domain_of t)) (within find e w (domain_of u)) (domain-has t v k.0) (domain-has u w k.1)
    domain-has (pair_type t u) _ h = absurd (cc)
    domain-has (set_type t) (set vs) h = domains-have t vs (and-both (are_values_of (set_size e.table) t vs) (Rattle.bk_val.specs.Value.is_rising vs) h).0
    domain-has (set_type t) _ h = absurd (cc)

    domains-have : (t : ValueType) (vs : MathValues) → are_values_of (set_size e.table) t vs ≡ true → list_all (λ v. within find e v (domain_of t)) (list_of vs) ≡ true
    domains-have t none h = refl
    domains-have t (more v vs) h = let k = and-both (is_value_of (set_size e.table) t v) (are_values_of (set_size e.table) t vs) h in and-true (within find e v (domain_of t)) (list_all (λ v. within find e v (domain_of t)) (list_of vs)) (domain-has t v k.0) (domains-have t vs k.1)

  pairs-have : (t u : ValueType) (v : MathValue) → is_value_of (set_size e.table) (set_type (pair_type t u)) v ≡ true → is_subset (is_pair_of (λ x. within find e x (domain_of t)) (λ x. within find e x (domain_of u))) v ≡ true
  pairs-have t u (set vs) h = all vs (and-both (are_values_of (set_size e.table) (pair_type t u) vs) (Rattle.bk_val.specs.Value.is_rising vs) h).0
    where
      one : (v : MathValue) → is_value_of (set_size e.table) (pair_type t u) v ≡ true → is_pair_of (λ x. within find e x (domain_of t)) (λ x. within find e x (domain_of u)) v ≡ true
      one (pair v w) h = let k = and-both (is_value_of (set_size e.table) t v) (is_value_of (set_size e.table) u w) h in and-true (within find e v (domain_of t)) (within find e w (domain_of u)) (domain-has t v k.0) (domain-has u w k.1)
      one _ h = absurd (cc)

      all : (vs : MathValues) → are_values_of (set_size e.table) (pair_type t u) vs ≡ true → list_all (is_pair_of (λ x. within find e x (domain_of t)) (λ x. within find e x (domain_of u))) (list_of vs) ≡ true
      all none h = refl
      all (more v vs) h = let k = and-both (is_value_of (set_size e.table) (pair_type t u) v) (are_values_of (set_size e.table) (pair_type t u) vs) h in and-true (is_pair_of (λ x. within find e x (domain_of t)) (λ x. within find e x (domain_of u)) v) (list_all (is_pair_of (λ x. within find e x (domain_of t)) (λ x. within find e x (domain_of u))) (list_of vs)) (one v k.0) (all vs k.1)
  pairs-have t u _ h = absurd (cc)

  module _ (well : IsWellFormed e.table) (typed : IsTyped e) where
    unary_own-so : (o : UnOp) (a : Formula) → IsTypedRole (unary_role o (role e.table (bound_types e) a)) → truth find e (unary_own o a) ≡ unary_inside o (value find e a)
    unary_own-so Min a h = let k = set-shape (λ t. if_holds (same_type t int_type) (gives int_type)) (role e.table (bound_types e) a) h in set-element (set_size e.table) k.0 (value find e a) (typed-value find e well typed a (set_type k.0) k.1)
    unary_own-so Max a h = let k = set-shape (λ t. if_holds (same_type t int_type) (gives int_type)) (role e.table (bound_types e) a) h in set-element (set_size e.table) k.0 (value find e a) (typed-value find e well typed a (set_type k.0) k.1)
    unary_own-so _ a h = refl

    apply-so : (a b : Formula) → IsTypedRole (binary_role Apply (role e.table (bound_types e) a) (role e.table (bound_types e) b)) → truth find e (binary And (binary In a (functions_of (role e.table (bound_types e) a))) (binary In b (unary Dom a))) ≡ binary_inside Apply (value find e a) (value find e b)
    apply-so a b h =
        let k = relation-shape (λ t u. if_value (λ v. if_holds (same_type v t) (gives u)) (role e.table (bound_types e) b)) (role e.table (bound_types e) a) h in
        let v = value find e a in
        let rel = pairs-have k.0 k.1 v (typed-value find e well typed a (set_type (pair_type k.0 k.1)) k.2) in
        let one : truth find e (binary In a (functions_of (role e.table (bound_types e) a))) ≡ is_function (elements v) =
        ap (λ r. truth find e (binary In a (functions_of r))) k.2 ∙ ap (λ x. x && is_function (elements v)) rel in
        let two : truth find e (binary In b (unary Dom a)) ≡ has (map first_part (elements v)) (value find e b) = element-set_value (map first_part (elements v)) (value find e b) in
        λ i. one i && two i

    binary_own-so : (o : BinOp) (a b : Formula) → IsTypedRole (binary_role o (role e.table (bound_types e) a) (role e.table (bound_types e) b)) → truth find e (binary_own o (role e.table (bound_types e) a) a b) ≡ binary_inside o (value find e a) (value find e b)
    binary_own-so Div a b h = refl
    binary_own-so Mod a b h = refl
    binary_own-so Power a b h = refl
    binary_own-so Apply a b h = apply-so a b h
    binary_own-so _ a b h = refl

  binary-so : (o : BinOp) (r : Role) (a b p q : Formula) (A B : Type 0) → (truth find e p ≡ true) ↔ A → (truth find e q ≡ true) ↔ B → truth find e (binary_own o r a b) ≡ binary_inside o (value find e a) (value find e b) →
      (truth find e (both (sides_asked (right_met o) a p q) (binary_own o r a b)) ≡ true) ↔ LeftToRight o (truth find e a) A B (binary_inside o (value find e a) (value find e b))
  binary-so And r a b p q A B f g w = true-so find e a p q A B f g
  binary-so Imp r a b p q A B f g w = true-so find e a p q A B f g
  binary-so Or r a b p q A B f g w = false-so find e a p q A B f g
  binary-so o r a b p q A B f g w = three-so find e (binary_inside o (value find e a) (value find e b)) p q (binary_own o r a b) A B f g w

-- ---- ranges
got-last : (ts : List ValueType) (vs : List MathValue) (x : Binding) (a : List Binding) (n : ℕ) → length ts ≡ n → slice_get (bind (bindings ts vs) (x ∷ a)) n ≡ Some x
got-last ts vs x a n q = let e : zero + length ts ≡ n = omega (arith, q) in subst (λ m. slice_get (bind (bindings ts vs) (x ∷ a)) m ≡ Some x) e (bindings-behind ts vs (x ∷ a) zero)

module _ (find : Finder) (e : Environment) where
  -- each value is in its range
  abbrev EachIn : Formulas → List MathValue → Type 0
  EachIn no_formulas [] = Unit {0}
  EachIn (formula_and r rs) (v ∷ vs) = (within find e v r ≡ true) × EachIn rs vs
  EachIn _ _ = ⊥

  module _ (n : ℕ) (b : List Binding) (same : (f : Formula) → meaning find (record e { bound = b }) (lifted n 0 f) ≡ meaning find e f) where
    abbrev inner : Environment
    inner = record e { bound = b }

    one-in : (r : Formula) (rs : Formulas) (v : MathValue) (vs : List MathValue) (a : List Binding) → b ≡ bind (bindings (range_types (meanings find e rs)) vs) ((element_type (meaning find e r).role, v) ∷ a) → truth find inner (binary In (bound (count rs)) (lifted n 0 r)) ≡ within find e v r
    one-in r rs v vs a h =
        let p : slice_get b (count rs) ≡ Some (element_type (meaning find e r).role, v) = ap (λ x. slice_get x (count rs)) h ∙ got-last (range_types (meanings find e rs)) vs (element_type (meaning find e r).role, v) a (count rs) (length-ranges find e rs) in
        λ i. (same r i).contains (bound_meaning e.table (p i)).value

    onto-so : (rs : Formulas) (vs : List MathValue) (a : List Binding) (f : Formula) → b ≡ bind (bindings (range_types (meanings find e rs)) vs) a → are_of_types (set_size e.table) (range_types (meanings find e rs)) vs ≡ true → (truth find inner (ranges_onto n f rs) ≡ true) ↔ ((truth find inner f ≡ true) × EachIn rs vs)
    onto-so no_formulas [] a f h o = ((λ q. (q, tt)), (λ q. q.0))
    onto-so no_formulas (v ∷ vs) a f h o = absurd (cc)
    onto-so (formula_and r rs) [] a f h o = absurd (cc)
    onto-so (formula_and r rs) (v ∷ vs) a f h o =
        let g = binary In (bound (count rs)) (lifted n 0 r) in
        let x : Binding = (element_type (meaning find e r).role, v) in
        let m = and-both (is_value_of (set_size e.table) (element_type (meaning find e r).role) v) (are_of_types (set_size e.table) (range_types (meanings find e rs)) vs) o in
        let k = onto-so rs vs (x ∷ a) (binary And f g) h m.1 in
        let w = one-in r rs v vs a h in (
          (λ q. let y = k.0 q in let z = and-both (truth find inner f) (truth find inner g) y.0 in (z.0, (sym w ∙ z.1, y.1))),
          (λ q. k.1 (and-true (truth find inner f) (truth find inner g) q.0 (w ∙ q.1.0), q.1.1)),
        )

    ranges-so : (rs : Formulas) (vs : List MathValue) (a : List Binding) → b ≡ bind (bindings (range_types (meanings find e rs)) vs) a → are_of_types (set_size e.table) (range_types (meanings find e rs)) vs ≡ true → (truth find inner (in_ranges n rs) ≡ true) ↔ EachIn rs vs
    ranges-so no_formulas [] a h o = ((λ q. tt), (λ q. refl))
    ranges-so no_formulas (v ∷ vs) a h o = absurd (cc)
    ranges-so (formula_and r rs) [] a h o = absurd (cc)
    ranges-so (formula_and r rs) (v ∷ vs) a h o =
        let x : Binding = (element_type (meaning find e r).role, v) in
        let m = and-both (is_value_of (set_size e.table) (element_type (meaning find e r).role) v) (are_of_types (set_size e.table) (range_types (meanings find e rs)) vs) o in
        let k = onto-so rs vs (x ∷ a) (binary In (bound (count rs)) (lifted n 0 r)) h m.1 in
        let w = one-in r rs v vs a h in
        ((λ q. let y = k.0 q in (sym w ∙ y.0, y.1)), (λ q. k.1 (w ∙ q.0, q.1)))

  -- the elements of a range are those of its value
  range-members : (r : Formula) → gives_set (role e.table (bound_types e) r) ≡ true → (v : MathValue) → within find e v r ≡ has (elements (value find e r)) v
  range-members r g v = by_role (role e.table (bound_types e) r) refl g
    where
      by_role : (x : Role) → role e.table (bound_types e) r ≡ x → gives_set x ≡ true → within find e v r ≡ has (elements (value find e r)) v
      by_role (gives (set_type t)) q g = sound_typing.members find e r (set_type t) q v
      by_role _ q g = absurd (cc)

  each-takes : (rs : Formulas) → each_gives_set (roles e.table (bound_types e) rs) ≡ true → (vs : List MathValue) → EachIn rs vs ↔ TakesOneOfEach (map (λ m. m.value) (meanings find e rs)) vs
  each-takes no_formulas g [] = ((λ h. h), (λ h. h))
  each-takes no_formulas g (v ∷ vs) = ((λ h. h), (λ h. h))
  each-takes (formula_and r rs) g [] = ((λ h. h), (λ h. h))
  each-takes (formula_and r rs) g (v ∷ vs) =
      let k = and-both (gives_set (role e.table (bound_types e) r)) (each_gives_set (roles e.table (bound_types e) rs)) g in
      let w = range-members r k.0 v in
      let rest = each-takes rs k.1 vs in
      ((λ h. (sym w ∙ h.0, rest.0 h.1)), (λ h. (w ∙ h.0, rest.1 h.1)))

  in-each : (rs : Formulas) → each_gives_set (roles e.table (bound_types e) rs) ≡ true → (vs : List MathValue) → InRanges find e rs vs ↔ EachIn rs vs
  in-each rs g vs =
      let c = choices-are (map (λ m. m.value) (meanings find e rs)) vs in
      let t = each-takes rs g vs in
      ((λ h. t.1 (c.0 h)), (λ h. c.1 (t.0 h)))

  in-typed : IsWellFormed e.table → IsTyped e → (rs : Formulas) → each_gives_set (roles e.table (bound_types e) rs) ≡ true → (vs : List MathValue) → EachIn rs vs → are_of_types (set_size e.table) (range_types (meanings find e rs)) vs ≡ true
  in-typed well typed no_formulas g [] h = refl
  in-typed well typed no_formulas g (v ∷ vs) h = absurd h
  in-typed well typed (formula_and r rs) g [] h = absurd h
  in-typed well typed (formula_and r rs) g (v ∷ vs) h =
      let k = and-both (gives_set (role e.table (bound_types e) r)) (each_gives_set (roles e.table (bound_types e) rs)) g in
      and-true (is_value_of (set_size e.table) (element_type (meaning find e r).role) v) (are_of_types (set_size e.table) (range_types (meanings find e rs)) vs) (by_role (role e.table (bound_types e) r) refl k.0) (in-typed well typed rs k.1 vs h.1)
    where
      by_role : (x : Role) → role e.table (bound_types e) r ≡ x → gives_set x ≡ true → is_value_of (set_size e.table) (element_type (meaning find e r).role) v ≡ true
      by_role (gives (set_type t)) q w =
          let member = Rattle.bk_form.proofs.Members.has-then v (elements (value find e r)) (sym (sound_typing.members find e r (set_type t) q v) ∙ h.0) in
          subst (λ y. is_value_of (set_size e.table) (element_type y) v ≡ true) (sym (meaning-role find e r ∙ q)) (Rattle.bk_form.proofs.Typed.elements-of (set_size e.table) t (value find e r) v (typed-value find e well typed r (set_type t) q) member)
      by_role _ q w = absurd (cc)

ranges-each : (rs : List Role) → are_ranges rs ≡ true → each_gives_set rs ≡ true
ranges-each [] h = absurd (cc)
ranges-each (r ∷ rs) h = h

each-typed-role : (r : Role) → gives_set r ≡ true → IsTypedRole r
each-typed-role untyped h = absurd (cc)
each-typed-role _ h = tt

-- ---- all formulas
module _ (find : Finder) (law : IsSearch find) where
  -- !x.(x : D => B), where B says X of each choice from the ranges
  ranged : (e : Environment) → IsWellFormed e.table → IsTyped e → (rs : Formulas) → each_gives_set (roles e.table (bound_types e) rs) ≡ true → (B : Formula) (X : List MathValue → Type 0) →
      ((vs : List MathValue) → are_of_types (set_size e.table) (range_types (meanings find e rs)) vs ≡ true → (truth find (under e (range_types (meanings find e rs)) vs) B ≡ true) ↔ X vs) →
      (truth find e (all_over (range_types (meanings find e rs)) (where_true (in_ranges (count rs) rs) B)) ≡ true) ↔ ((vs : List MathValue) → InRanges find e rs vs → X vs)
  ranged e well typed rs g B X q =
      let ts = range_types (meanings find e rs) in
      let R = in_ranges (count rs) rs in
      let a = all_over-so find e law ts (where_true R B) in
      let r : (vs : List MathValue) → are_of_types (set_size e.table) ts vs ≡ true → (truth find (under e ts vs) R ≡ true) ↔ EachIn find e rs vs = λ vs o. ranges-so find e (count rs) (bind (bindings ts vs) e.bound) (λ f. meaning-lifted-under find e ts vs (count rs) (length-ranges find e rs) f) rs vs e.bound refl o in (
        (λ h vs l.
            let each = (in-each find e rs g vs).0 l in
            let o = in-typed find e well typed rs g vs each in
            (where-so find (under e ts vs) R B (X vs) (q vs o)).0 (a.0 h vs o) ((r vs o).1 each)),
        (λ h. a.1 (λ vs o. (where-so find (under e ts vs) R B (X vs) (q vs o)).1 (λ y. h vs ((in-each find e rs g vs).1 ((r vs o).0 y))))),
      )

  around-typed : (e : Environment) (ts us : List ValueType) (vs : List MathValue) (p : Formula) → us ≡ ts → IsTypedRole (role e.table (bind ts (bound_types e)) p) → IsTypedRole (role e.table (bound_types (under e us vs)) p)
  around-typed e ts us vs p q h = subst (λ x. IsTypedRole (role e.table x p)) (sym (types-bind us vs e.bound)) (subst (λ x. IsTypedRole (role e.table (bind x (bound_types e)) p)) (sym q) h)

  quantified : (e : Environment) (ts : List ValueType) (p : Formula) → IsTypedRole (if_holds (all_listed e.table ts) (if_predicate predicate (role e.table (bind ts (bound_types e)) p))) →
      ((vs : List MathValue) → are_of_types (set_size e.table) ts vs ≡ true → IsTypedRole (role e.table (bound_types (under e ts vs)) p) → (truth find (under e ts vs) (defined e.table (bound_types (under e ts vs)) p) ≡ true) ↔ Defined find (under e ts vs) p) →
      (truth find e (all_over ts (defined e.table (bind ts (bound_types e)) p)) ≡ true) ↔ ((vs : List MathValue) → are_of_types (set_size e.table) ts vs ≡ true → Defined find (under e ts vs) p)
  quantified e ts p h rec =
      let body = role e.table (bind ts (bound_types e)) p in
      let k = holds-op (all_listed e.table ts) (if_predicate predicate body) h in
      let n = (predicate-op predicate body k.1).0 in
      let a = all_over-so find e law ts (defined e.table (bind ts (bound_types e)) p) in
      let q : (vs : List MathValue) → are_of_types (set_size e.table) ts vs ≡ true → (truth find (under e ts vs) (defined e.table (bind ts (bound_types e)) p) ≡ true) ↔ Defined find (under e ts vs) p = λ vs o.
      subst (λ x. (truth find (under e ts vs) (defined e.table x p) ≡ true) ↔ Defined find (under e ts vs) p) (types-bind ts vs e.bound) (rec vs o (around-typed e ts ts vs p refl n)) in
      ((λ x vs o. (q vs o).0 (a.0 x vs o)), (λ x. a.1 (λ vs o. (q vs o).1 (x vs o))))

  ranges-so-far : (e : Environment) (rs : Formulas) → (truth find e (all_defined e.table (bound_types e) btrue rs) ≡ true) ↔ ((truth find e btrue ≡ true) × AreDefined find e rs) → (truth find e (all_defined e.table (bound_types e) btrue rs) ≡ true) ↔ AreDefined find e rs
  ranges-so-far e rs k = ((λ q. (k.0 q).1), (λ q. k.1 (refl, q)))

  mutual
    wd-exact : (e : Environment) → IsWellFormed e.table → IsTyped e → (f : Formula) → IsTypedRole (role e.table (bound_types e) f) → (truth find e (defined e.table (bound_types e) f) ≡ true) ↔ Defined find e f
    wd-exact e well typed (unary o a) h =
        let k = unary-op o (role e.table (bound_types e) a) h in
        let w = unary_own-so find e well typed o a h in
        both-so find e (defined e.table (bound_types e) a) (unary_own o a) (Defined find e a) (unary_inside o (value find e a) ≡ true) (wd-exact e well typed a k) ((λ q. sym w ∙ q), (λ q. w ∙ q))
    wd-exact e well typed (binary o a b) h =
        let k = binary-op o (role e.table (bound_types e) a) (role e.table (bound_types e) b) h in
        binary-so find e o (role e.table (bound_types e) a) a b (defined e.table (bound_types e) a) (defined e.table (bound_types e) b) (Defined find e a) (Defined find e b) (wd-exact e well typed a k.0) (wd-exact e well typed b k.1) (binary_own-so find e well typed o a b h)
    wd-exact e well typed (for_all ts p) h = quantified e ts p h (λ vs o w. wd-exact (under e ts vs) well (under-typed e ts vs typed o) p w)
    wd-exact e well typed (for_some ts p) h = quantified e ts p h (λ vs o w. wd-exact (under e ts vs) well (under-typed e ts vs typed o) p w)
    wd-exact e well typed (comprehension rs p) h =
        let rr = roles e.table (bound_types e) rs in
        let ts = element_types rr in
        let us = range_types (meanings find e rs) in
        let k = holds-op (are_ranges rr) (if_predicate (gives (set_type (tuple_type ts))) (role e.table (bind ts (bound_types e)) p)) h in
        let n = (predicate-op (gives (set_type (tuple_type ts))) (role e.table (bind ts (bound_types e)) p) k.1).0 in
        let g = ranges-each rr k.0 in
        let same : us ≡ ts = ap element_types (meanings-role find e rs) in
        let D = defined e.table (bind ts (bound_types e)) p in
        let q : (vs : List MathValue) → are_of_types (set_size e.table) us vs ≡ true → (truth find (under e us vs) D ≡ true) ↔ Defined find (under e us vs) p = λ vs o.
        subst (λ x. (truth find (under e us vs) (defined e.table x p) ≡ true) ↔ Defined find (under e us vs) p) (types-bind us vs e.bound ∙ ap (λ x. bind x (bound_types e)) same)
        (wd-exact (under e us vs) well (under-typed e us vs typed o) p (around-typed e ts us vs p same n)) in
        let body = ranged e well typed rs g D (λ vs. Defined find (under e us vs) p) q in
        let whole = both-so find e (all_defined e.table (bound_types e) btrue rs) (all_over us (where_true (in_ranges (count rs) rs) D)) (AreDefined find e rs) ((vs : List MathValue) → InRanges find e rs vs → Defined find (under e us vs) p) (ranges-so-far e rs (wds-exact e well typed rs g btrue)) body in
        subst (λ x. (truth find e (both (all_defined e.table (bound_types e) btrue rs) (all_over x (where_true (in_ranges (count rs) rs) D))) ≡ true) ↔ (AreDefined find e rs × ((vs : List MathValue) → InRanges find e rs vs → Defined find (under e us vs) p))) same whole
    wd-exact e well typed (lambda rs p v) h =
        let rr = roles e.table (bound_types e) rs in
        let ts = element_types rr in
        let us = range_types (meanings find e rs) in
        let image = role e.table (bind ts (bound_types e)) v in
        let body = role e.table (bind ts (bound_types e)) p in
        let k = holds-op (are_ranges rr) (if_predicate (if_value (λ u. gives (set_type (pair_type (tuple_type ts) u))) image) body) h in
        let n = predicate-op (if_value (λ u. gives (set_type (pair_type (tuple_type ts) u))) image) body k.1 in
        let m = (value-op (λ u. gives (set_type (pair_type (tuple_type ts) u))) image n.1).0 in
        let g = ranges-each rr k.0 in
        let same : us ≡ ts = ap element_types (meanings-role find e rs) in
        let D = defined e.table (bind ts (bound_types e)) p in
        let V = defined e.table (bind ts (bound_types e)) v in
        let X : List MathValue → Type 0 = λ vs. Defined find (under e us vs) p × (truth find (under e us vs) p ≡ true → Defined find (under e us vs) v) in
        let q : (vs : List MathValue) → are_of_types (set_size e.table) us vs ≡ true → (truth find (under e us vs) (both D (where_true p V)) ≡ true) ↔ X vs = λ vs o.
        let way = types-bind us vs e.bound ∙ ap (λ x. bind x (bound_types e)) same in
        let typed_in = under-typed e us vs typed o in
        let first = subst (λ x. (truth find (under e us vs) (defined e.table x p) ≡ true) ↔ Defined find (under e us vs) p) way (wd-exact (under e us vs) well typed_in p (around-typed e ts us vs p same n.0)) in
        let second = subst (λ x. (truth find (under e us vs) (defined e.table x v) ≡ true) ↔ Defined find (under e us vs) v) way (wd-exact (under e us vs) well typed_in v (around-typed e ts us vs v same m)) in
        both-so find (under e us vs) D (where_true p V) (Defined find (under e us vs) p) (truth find (under e us vs) p ≡ true → Defined find (under e us vs) v) first (where-so find (under e us vs) p V (Defined find (under e us vs) v) second) in
        let inner = ranged e well typed rs g (both D (where_true p V)) X q in
        let whole = both-so find e (all_defined e.table (bound_types e) btrue rs) (all_over us (where_true (in_ranges (count rs) rs) (both D (where_true p V)))) (AreDefined find e rs) ((vs : List MathValue) → InRanges find e rs vs → X vs) (ranges-so-far e rs (wds-exact e well typed rs g btrue)) inner in
        subst (λ x. (truth find e (both (all_defined e.table (bound_types e) btrue rs) (all_over x (where_true (in_ranges (count rs) rs) (both D (where_true p V))))) ≡ true) ↔ (AreDefined find e rs × ((vs : List MathValue) → InRanges find e rs vs → X vs))) same whole
    wd-exact e well typed _ h = ((λ q. tt), (λ q. refl))

    -- and of several, after a condition
    wds-exact : (e : Environment) → IsWellFormed e.table → IsTyped e → (fs : Formulas) → each_gives_set (roles e.table (bound_types e) fs) ≡ true → (f : Formula) → (truth find e (all_defined e.table (bound_types e) f fs) ≡ true) ↔ ((truth find e f ≡ true) × AreDefined find e fs)
    wds-exact e well typed no_formulas g f = ((λ q. (q, tt)), (λ q. q.0))
    wds-exact e well typed (formula_and r rs) g f =
        let w = and-both (gives_set (role e.table (bound_types e) r)) (each_gives_set (roles e.table (bound_types e) rs)) g in
        let one = both-so find e f (defined e.table (bound_types e) r) (truth find e f ≡ true) (Defined find e r) ((λ h. h), (λ h. h)) (wd-exact e well typed r (each-typed-role (role e.table (bound_types e) r) w.0)) in
        let rest = wds-exact e well typed rs w.1 (both f (defined e.table (bound_types e) r)) in
        ((λ q. let x = rest.0 q in let y = one.0 x.0 in (y.0, (y.1, x.1))), (λ q. rest.1 (one.1 (q.0, q.1.0), q.1.1)))

pub defined_is_exact : DefinedIsExact
defined_is_exact find law e well typed f h = wd-exact find law e well typed f h
