-- What WD and Chk are put together of are predicates.
use Rattle.std.proofs.Common.{◌≡◌, ◌⊎◌, inl, inr, List, refl, ◌∙◌, ap, true}
use Rattle.bk_val.specs.ValueType.{ValueType, int_type, bool_type, enum_type, pair_type, set_type}
use Rattle.bk_form.specs.Table.{Table, lists_type}
use Rattle.bk_form.specs.Formula.{Formula, btrue, unary}
use Rattle.bk_form.specs.Role.{Role, gives, ranges_over, predicate, untyped, if_holds, if_predicate, if_number, if_value, if_set, if_relation, same_type, unary_role, binary_role, connective_role, numbers_role, equality_role, membership_role, arrow_role, product_role, role, bind, all_listed}
use Rattle.bk_form.specs.declared.operator.UnOp.{UnOp}
use Rattle.bk_form.specs.declared.operator.UnOp.TheVariants.{Not, Min, Max, Dom, Pow}
use Rattle.bk_form.specs.declared.operator.BinOp.{BinOp}
use Rattle.bk_form.specs.declared.operator.BinOp.TheVariants.{And, Or, Imp, Div, Mod, Power, Apply}
use Rattle.bk_form.specs.Wider.{IsTypedRole}
use Rattle.bk_form.proofs.Equations.{same_type-self}
use Rattle.bk_form.proofs.Members.{and-both}
use Rattle.bk_form.proofs.Operands.{holds-op}
use Rattle.bk_form.proofs.Roles.{same_type-then}
use Rattle.bk_wd.specs.Joining.{both, where_true, all_over}
use Rattle.bk_wd.specs.Operands.{right_met, sides_asked}
use Rattle.bk_wd.specs.WellDefined.{domain_of, functions_of, unary_own, binary_own}

-- ---- what formulas are put together of
module _ (table : Table) (around : List ValueType) where
  abbrev Holds : Formula → Type 0
  Holds p = role table around p ≡ predicate

  pub both-role : (p q : Formula) → Holds p → Holds q → Holds (both p q)
  both-role btrue q h k = k
  both-role p btrue h k = h
  both-role p q h k = λ i. connective_role (h i) (k i)

  pub where-role : (p q : Formula) → Holds p → Holds q → Holds (where_true p q)
  where-role p btrue h k = refl
  where-role btrue q h k = k
  where-role p q h k = λ i. connective_role (h i) (k i)

  pub not-role : (p : Formula) → Holds p → Holds (unary Not p)
  not-role p h = λ i. unary_role Not (h i)

  pub over-role : (ts : List ValueType) (p : Formula) → all_listed table ts ≡ true → role table (bind ts around) p ≡ predicate → Holds (all_over ts p)
  over-role ts btrue l h = refl
  over-role ts p l h = λ i. if_holds (l i) (if_predicate predicate (h i))

  -- ---- a type as a domain
  abbrev IsOver : Role → ValueType → Type 0
  IsOver a t = (a ≡ gives (set_type t)) ⊎ (a ≡ ranges_over t)

  domain-of : (t : ValueType) → lists_type table t ≡ true → IsOver (role table around (domain_of t)) t
  domain-of int_type l = inr refl
  domain-of bool_type l = inl refl
  domain-of (enum_type n) l = inl (ap (λ b. if_holds b (gives (set_type (enum_type n)))) l)
  domain-of (pair_type t u) l =
      let k = and-both (lists_type table t) (lists_type table u) l in
      two (role table around (domain_of t)) (role table around (domain_of u)) (domain-of t k.0) (domain-of u k.1)
    where
      two : (a b : Role) → IsOver a t → IsOver b u → IsOver (product_role a b) (pair_type t u)
      two a b (inl x) (inl y) = inl (λ i. product_role (x i) (y i))
      two a b (inl x) (inr y) = inr (λ i. product_role (x i) (y i))
      two a b (inr x) (inl y) = inr (λ i. product_role (x i) (y i))
      two a b (inr x) (inr y) = inr (λ i. product_role (x i) (y i))
  domain-of (set_type t) l = elim (domain-of t l) [ inl x ↦ inr (ap (unary_role Pow) x) | inr x ↦ inr (ap (unary_role Pow) x) ]

  functions-of : (r : Role) (t u : ValueType) → r ≡ gives (set_type (pair_type t u)) → lists_type table t ≡ true → lists_type table u ≡ true → role table around (functions_of r) ≡ ranges_over (set_type (pair_type t u))
  functions-of r t u e l m = ap (λ x. role table around (functions_of x)) e ∙ two (role table around (domain_of t)) (role table around (domain_of u)) (domain-of t l) (domain-of u m)
    where
      two : (a b : Role) → IsOver a t → IsOver b u → arrow_role a b ≡ ranges_over (set_type (pair_type t u))
      two a b (inl x) (inl y) = λ i. arrow_role (x i) (y i)
      two a b (inl x) (inr y) = λ i. arrow_role (x i) (y i)
      two a b (inr x) (inl y) = λ i. arrow_role (x i) (y i)
      two a b (inr x) (inr y) = λ i. arrow_role (x i) (y i)

  -- ---- numbers
  number-is : (r a : Role) → IsTypedRole (if_number r a) → (a ≡ gives int_type) × IsTypedRole r
  number-is r (gives int_type) h = (refl, h)
  number-is r _ h = absurd h

  pub numbers-are : (r a b : Role) → IsTypedRole (numbers_role r a b) → (a ≡ gives int_type) × (b ≡ gives int_type)
  numbers-are r a b h = let k = number-is (if_number r b) a h in (k.0, (number-is r b k.1).0)

  set-is : (f : ValueType → Role) (r : Role) → IsTypedRole (if_set f r) → (t : ValueType) × (r ≡ gives (set_type t)) × IsTypedRole (f t)
  set-is f (gives (set_type t)) h = (t, refl, h)
  set-is f _ h = absurd h

  pub relation-is : (f : ValueType → ValueType → Role) (r : Role) → IsTypedRole (if_relation f r) → (t : ValueType) × (u : ValueType) × (r ≡ gives (set_type (pair_type t u))) × IsTypedRole (f t u)
  relation-is f (gives (set_type (pair_type t u))) h = (t, u, refl, h)
  relation-is f _ h = absurd h

  pub value-is : (f : ValueType → Role) (r : Role) → IsTypedRole (if_value f r) → (t : ValueType) × (r ≡ gives t) × IsTypedRole (f t)
  value-is f (gives t) h = (t, refl, h)
  value-is f _ h = absurd h

  pub unary-own-role : (o : UnOp) (a : Formula) → IsTypedRole (unary_role o (role table around a)) → Holds (unary_own o a)
  unary-own-role Min a h =
      let k = set-is (λ t. if_holds (same_type t int_type) (gives int_type)) (role table around a) h in
      let s : k.0 ≡ int_type = same_type-then k.0 int_type (holds-op (same_type k.0 int_type) (gives int_type) k.2).0 in
      (λ i. unary_role Not (equality_role ((k.1 ∙ ap (λ t. gives (set_type t)) s) i) (gives (set_type int_type))))
  unary-own-role Max a h =
      let k = set-is (λ t. if_holds (same_type t int_type) (gives int_type)) (role table around a) h in
      let s : k.0 ≡ int_type = same_type-then k.0 int_type (holds-op (same_type k.0 int_type) (gives int_type) k.2).0 in
      (λ i. unary_role Not (equality_role ((k.1 ∙ ap (λ t. gives (set_type t)) s) i) (gives (set_type int_type))))
  unary-own-role _ a h = refl

  own-is : (a b : Role) → a ≡ gives int_type → b ≡ gives int_type → (numbers_role predicate a b ≡ predicate) × (equality_role a b ≡ predicate)
  own-is a b h k = ((λ i. numbers_role predicate (h i) (k i)), (λ i. equality_role (h i) (k i)))

  binary-own-role : (o : BinOp) (a b : Formula) → ((t : ValueType) → role table around a ≡ gives t → lists_type table t ≡ true) → IsTypedRole (binary_role o (role table around a) (role table around b)) → Holds (binary_own o (role table around a) a b)
  binary-own-role Div a b l h = let k = numbers-are (gives int_type) (role table around a) (role table around b) h in λ i. unary_role Not ((own-is (role table around b) (gives int_type) k.1 refl).1 i)
  binary-own-role Mod a b l h =
      let k = numbers-are (gives int_type) (role table around a) (role table around b) h in
      λ i. connective_role ((own-is (gives int_type) (role table around a) refl k.0).0 i) ((own-is (gives int_type) (role table around b) refl k.1).0 i)
  binary-own-role Power a b l h = let k = numbers-are (gives int_type) (role table around a) (role table around b) h in (own-is (gives int_type) (role table around b) refl k.1).0
  binary-own-role Apply a b l h =
      let k = relation-is (λ t u. if_value (λ v. if_holds (same_type v t) (gives u)) (role table around b)) (role table around a) h in
      let t = k.0 in
      let u = k.1 in
      let w = value-is (λ v. if_holds (same_type v t) (gives u)) (role table around b) k.3 in
      let s : w.0 ≡ t = same_type-then w.0 t (holds-op (same_type w.0 t) (gives u) w.2).0 in
      let both_listed = and-both (lists_type table t) (lists_type table u) (l (set_type (pair_type t u)) k.2) in
      let fs = functions-of (role table around a) t u k.2 both_listed.0 both_listed.1 in
      let one : membership_role (role table around a) (role table around (functions_of (role table around a))) ≡ predicate = (λ i. membership_role (k.2 i) (fs i)) ∙ ap (λ x. if_holds x predicate) (same_type-self (set_type (pair_type t u))) in
      let two : membership_role (role table around b) (unary_role Dom (role table around a)) ≡ predicate = (λ i. membership_role (w.1 i) (unary_role Dom (k.2 i))) ∙ ap (λ x. if_holds (same_type x t) predicate) s ∙ ap (λ x. if_holds x predicate) (same_type-self t) in
      λ i. connective_role (one i) (two i)
  binary-own-role _ a b l h = refl

  pub connective-is : (a b : Role) → IsTypedRole (connective_role a b) → (a ≡ predicate) × (b ≡ predicate)
  connective-is predicate predicate h = (refl, refl)
  connective-is (gives t) b h = absurd h
  connective-is (ranges_over t) b h = absurd h
  connective-is untyped b h = absurd h
  connective-is predicate (gives t) h = absurd h
  connective-is predicate (ranges_over t) h = absurd h
  connective-is predicate untyped h = absurd h

  pub binary-defined-role : (o : BinOp) (a b p q : Formula) → ((t : ValueType) → role table around a ≡ gives t → lists_type table t ≡ true) → IsTypedRole (binary_role o (role table around a) (role table around b)) → Holds p → Holds q →
      Holds (both (sides_asked (right_met o) a p q) (binary_own o (role table around a) a b))
  binary-defined-role And a b p q l h hp hq = let k = connective-is (role table around a) (role table around b) h in both-role (both p (where_true a q)) btrue (both-role p (where_true a q) hp (where-role a q k.0 hq)) refl
  binary-defined-role Imp a b p q l h hp hq = let k = connective-is (role table around a) (role table around b) h in both-role (both p (where_true a q)) btrue (both-role p (where_true a q) hp (where-role a q k.0 hq)) refl
  binary-defined-role Or a b p q l h hp hq = let k = connective-is (role table around a) (role table around b) h in both-role (both p (where_true (unary Not a) q)) btrue (both-role p (where_true (unary Not a) q) hp (where-role (unary Not a) q (not-role a k.0) hq)) refl
  binary-defined-role o a b p q l h hp hq = both-role (both p q) (binary_own o (role table around a) a b) (both-role p q hp hq) (binary-own-role o a b l h)
