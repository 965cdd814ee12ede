-- What the operands of a formula are, where it gives a type; and that a formula's meaning has its role.
use Rattle.std.proofs.Common.{◌≡◌, ℕ, zero, suc, List, [], ◌∷◌, map, refl, ◌∙◌, ap, Bool, true, false, ◌&&◌}
use Rattle.std.specs.Prelude.{slice_get}
use Rattle.bk_val.specs.Value.{MathValue}
use Rattle.bk_val.specs.ValueType.{ValueType, int_type, bool_type, enum_type, pair_type, set_type, base_of}
use Rattle.bk_form.specs.Table.{Table}
use Rattle.bk_form.specs.Formula.{Formula, bound, unary, binary, for_all, for_some, comprehension, lambda, Formulas, no_formulas, formula_and}
use Rattle.bk_form.specs.Search.{Finder}
use Rattle.bk_form.specs.Environment.{Environment, Binding, bindings, bound_types, under}
use Rattle.bk_form.specs.Role.{Role, gives, ranges_over, predicate, if_holds, if_predicate, if_number, if_value, if_set, if_relation, if_domain, same_type, bind, role, roles, unary_role, binary_role, bound_role, quantifier_role, comprehension_role, lambda_role, element_types}
use Rattle.bk_form.specs.Meaning.{meaning, meanings, roles_of, range_types, bound_meaning}
use Rattle.std.proofs.lemmas.Bool.Decides.{nat_tests}
use Rattle.std.proofs.Common.{arith, nat_eq}

pub if_holds-gives : (b : Bool) (r : Role) (t : ValueType) → if_holds b r ≡ gives t → (b ≡ true) × (r ≡ gives t)
if_holds-gives true r t h = (refl, h)
if_holds-gives false r t h = absurd (cc)

pub if_predicate-gives : (r a : Role) (t : ValueType) → if_predicate r a ≡ gives t → (a ≡ predicate) × (r ≡ gives t)
if_predicate-gives r predicate t h = (refl, h)
if_predicate-gives r _ t h = absurd (cc)

pub if_number-gives : (r a : Role) (t : ValueType) → if_number r a ≡ gives t → (a ≡ gives int_type) × (r ≡ gives t)
if_number-gives r (gives int_type) t h = (refl, h)
if_number-gives r _ t h = absurd (cc)

pub if_value-gives : (f : ValueType → Role) (a : Role) (t : ValueType) → if_value f a ≡ gives t → (u : ValueType) × (a ≡ gives u) × (f u ≡ gives t)
if_value-gives f (gives u) t h = (u, refl, h)
if_value-gives f _ t h = absurd (cc)

pub if_set-gives : (f : ValueType → Role) (a : Role) (t : ValueType) → if_set f a ≡ gives t → (u : ValueType) × (a ≡ gives (set_type u)) × (f u ≡ gives t)
if_set-gives f (gives (set_type u)) t h = (u, refl, h)
if_set-gives f _ t h = absurd (cc)

pub record RelationGives (f : ValueType → ValueType → Role) (a : Role) (t : ValueType) : Type 0 where
  pub first : ValueType
  pub second : ValueType
  pub operand : a ≡ gives (set_type (pair_type first second))
  pub result : f first second ≡ gives t

pub if_relation-gives : (f : ValueType → ValueType → Role) (a : Role) (t : ValueType) → if_relation f a ≡ gives t → RelationGives f a t
if_relation-gives f (gives (set_type (pair_type u v))) t h = record { first = u; second = v; operand = refl; result = h }
if_relation-gives f _ t h = absurd (cc)

-- a rule that gives no value does not give one
pub if_domain-gives : (f : ValueType → Role) (a : Role) (t : ValueType) → ((u : ValueType) → f u ≡ gives t → ⊥) → if_domain f a ≡ gives t → ⊥
if_domain-gives f (gives (set_type u)) t n h = n u h
if_domain-gives f (ranges_over u) t n h = n u h
if_domain-gives f _ t n h = absurd (cc)

nat_eq-same : (m n : ℕ) → nat_eq m n ≡ true → m ≡ n
nat_eq-same m n h = grind (arith, nat_tests)

both : (a b : Bool) → (a && b) ≡ true → (a ≡ true) × (b ≡ true)
both true b h = (refl, h)
both false b h = absurd (cc)

pub same_type-then : (t u : ValueType) → same_type t u ≡ true → t ≡ u
same_type-then int_type int_type h = refl
same_type-then bool_type bool_type h = refl
same_type-then (enum_type m) (enum_type n) h = ap enum_type (nat_eq-same m n h)
same_type-then (pair_type s t) (pair_type u v) h = let k = both (same_type s u) (same_type t v) h in λ i. pair_type (same_type-then s u k.0 i) (same_type-then t v k.1 i)
same_type-then (set_type t) (set_type u) h = ap set_type (same_type-then t u h)
same_type-then _ _ h = absurd (cc)

-- ---- a formula's meaning has its role

pub types-bind : (ts : List ValueType) (vs : List MathValue) (bs : List Binding) → map (λ b. b.0) (bind (bindings ts vs) bs) ≡ bind ts (map (λ b. b.0) bs)
types-bind [] vs bs = refl
types-bind (t ∷ ts) [] bs = types-bind ts [] ((t, base_of t) ∷ bs)
types-bind (t ∷ ts) (v ∷ vs) bs = types-bind ts vs ((t, v) ∷ bs)

role-bound : (table : Table) (bs : List Binding) (n : ℕ) → (bound_meaning table (slice_get bs n)).role ≡ bound_role table (slice_get (map (λ b. b.0) bs) n)
role-bound table [] zero = refl
role-bound table [] (suc n) = refl
role-bound table (b ∷ bs) zero = refl
role-bound table (b ∷ bs) (suc n) = role-bound table bs n

module _ (find : Finder) where
  mutual
    pub meaning-role : (e : Environment) (f : Formula) → (meaning find e f).role ≡ role e.table (bound_types e) f
    meaning-role e (bound n) = role-bound e.table e.bound n
    meaning-role e (unary o a) = λ i. unary_role o (meaning-role e a i)
    meaning-role e (binary o a b) = λ i. binary_role o (meaning-role e a i) (meaning-role e b i)
    meaning-role e (for_all ts p) = ap (quantifier_role e.table ts) (meaning-role (under e ts []) p ∙ ap (λ bs. role e.table bs p) (types-bind ts [] e.bound))
    meaning-role e (for_some ts p) = ap (quantifier_role e.table ts) (meaning-role (under e ts []) p ∙ ap (λ bs. role e.table bs p) (types-bind ts [] e.bound))
    meaning-role e (comprehension rs p) =
        let ts = range_types (meanings find e rs) in
        let r = meanings-role e rs in
        let inner = meaning-role (under e ts []) p ∙ ap (λ bs. role e.table bs p) (types-bind ts [] e.bound ∙ ap (λ x. bind (element_types x) (bound_types e)) r) in
        λ i. comprehension_role (r i) (inner i)
    meaning-role e (lambda rs p v) =
        let ts = range_types (meanings find e rs) in
        let r = meanings-role e rs in
        let around = types-bind ts [] e.bound ∙ ap (λ x. bind (element_types x) (bound_types e)) r in
        let body = meaning-role (under e ts []) p ∙ ap (λ bs. role e.table bs p) around in
        let image = meaning-role (under e ts []) v ∙ ap (λ bs. role e.table bs v) around in
        λ i. lambda_role (r i) (body i) (image i)
    meaning-role e _ = refl

    pub meanings-role : (e : Environment) (fs : Formulas) → roles_of (meanings find e fs) ≡ roles e.table (bound_types e) fs
    meanings-role e no_formulas = refl
    meanings-role e (formula_and f fs) = λ i. meaning-role e f i ∷ meanings-role e fs i
