-- Of a formula that types, WD and Chk are predicates.
use Rattle.std.proofs.Common.{◌≡◌, ℕ, zero, suc, ◌+◌, List, [], ◌∷◌, length, refl, sym, ◌∙◌, ap, subst, true, nat_lt, arith, Some, None, Option}
use Rattle.std.specs.Prelude.{slice_get}
use Rattle.std.proofs.lemmas.Bool.Decides.{nat_tests}
use Rattle.bk_val.specs.ValueType.{ValueType, int_type, enum_type, pair_type, set_type}
use Rattle.bk_form.specs.Table.{Table, lists_type, listed_size, IsWellFormed}
use Rattle.bk_form.specs.ArrayTable.{ArrayTable}
use Rattle.bk_form.specs.Formula.{Formula, variable, bound, btrue, unary, binary, for_all, for_some, comprehension, lambda, Formulas, no_formulas, formula_and}
use Rattle.bk_form.specs.Role.{Role, gives, predicate, untyped, if_holds, if_predicate, if_value, same_type, given_by, bound_role, unary_role, binary_role, connective_role, numbers_role, equality_role, membership_role, role, roles, bind, all_listed, gives_set, each_gives_set, are_ranges, element_type, element_types, tuple_type}
use Rattle.bk_form.specs.Replacement.{count}
use Rattle.bk_form.specs.Defined.{array_of}
use Rattle.bk_form.specs.Predicates.{IsPredicate}
use Rattle.bk_form.specs.Wider.{IsTypedRole}
use Rattle.bk_form.specs.declared.operator.UnOp.TheVariants.{Not}
use Rattle.bk_form.specs.declared.operator.BinOp.{BinOp}
use Rattle.bk_form.specs.declared.operator.BinOp.TheVariants.{And, Or, Imp, In, Add, Sub, Mul, Div, Mod, Apply}
use Rattle.bk_form.specs.declared.arrays.ArrayRow.{ArrayRow}
use Rattle.bk_form.specs.declared.arrays.ArrayDomain.{ArrayDomain}
use Rattle.bk_form.specs.declared.arrays.ArrayDomain.TheVariants.{Interval, Bool as OfBooleans, Set as OfElements}
use Rattle.bk_form.proofs.Closed.{are-each}
use Rattle.bk_form.proofs.Equations.{same_type-self}
use Rattle.bk_form.proofs.Listed.{gives-listed}
use Rattle.bk_form.proofs.Members.{and-true, and-both}
use Rattle.bk_form.proofs.Operands.{holds-op, predicate-op, value-op, unary-op, binary-op}
use Rattle.bk_form.proofs.Roles.{same_type-then, if_holds-gives}
use Rattle.bk_form.proofs.Counted.{size-listed}
use Rattle.bk_form.proofs.Widening.{type-listed}
use Rattle.bk_form.specs.Lifting.{lifted}
use Rattle.bk_bind.proofs.Raised.{count-types, types-behind, role-lifted-under}
use Rattle.bk_wd.specs.Joining.{both, where_true, all_over}
use Rattle.bk_wd.specs.Operands.{right_met, sides_asked}
use Rattle.bk_wd.specs.WellDefined.{unary_own, ranges_onto, in_ranges, defined, all_defined}
use Rattle.bk_wd.specs.Checked.{in_machine, in_domain, index_check, checked_own, checked}
use Rattle.bk_wd.specs.Laws.{index_type, AreTypedArrays, ConditionsArePredicates}
use Rattle.bk_wd.proofs.Parts.{both-role, where-role, not-role, over-role, numbers-are, relation-is, value-is, connective-is, unary-own-role, binary-defined-role}

pub each-typed-role : (r : Role) → gives_set r ≡ true → IsTypedRole r
each-typed-role untyped h = absurd (cc)
each-typed-role _ h = tt

set-given : (r : Role) → gives_set r ≡ true → r ≡ gives (set_type (element_type r))
set-given (gives (set_type t)) h = refl
set-given _ h = absurd (cc)

last-behind : (ts : List ValueType) (t : ValueType) (a : List ValueType) → slice_get (bind ts (t ∷ a)) (length ts) ≡ Some t
last-behind ts t a = let e : 0 + length ts ≡ length ts = omega arith in subst (λ j. slice_get (bind ts (t ∷ a)) j ≡ Some t) e (types-behind ts (t ∷ a) 0)

pub first-part : (a b c d : ValueType) → gives (set_type (pair_type a b)) ≡ gives (set_type (pair_type c d)) → a ≡ c
first-part a b c d h = cc

pub first-of-pair : (a b s c d : ValueType) → gives (pair_type a b) ≡ gives s → gives (set_type s) ≡ gives (set_type (pair_type c d)) → a ≡ c
first-of-pair a b s c d h k = cc

module _ (table : Table) (well : IsWellFormed table) where
  pub gives-l : (around : List ValueType) (f : Formula) (t : ValueType) → role table around f ≡ gives t → lists_type table t ≡ true
  gives-l around f t h = gives-listed table (type-listed table well) (λ s i q. size-listed table s i (if_holds-gives (nat_lt i (listed_size table s)) (gives (enum_type s)) (enum_type s) q).0) around f t h

  -- ---- ranges
  range-role : (around inner : List ValueType) (n m : ℕ) (r : Formula) → role table inner (lifted n 0 r) ≡ role table around r → gives_set (role table around r) ≡ true → slice_get inner m ≡ Some (element_type (role table around r)) → role table inner (binary In (bound m) (lifted n 0 r)) ≡ predicate
  range-role around inner n m r same g at =
      let t = element_type (role table around r) in
      let given = set-given (role table around r) g in
      let listed : lists_type table t ≡ true = gives-l around r (set_type t) given in
      let left : bound_role table (slice_get inner m) ≡ gives t = ap (bound_role table) at ∙ ap (λ b. if_holds b (gives t)) listed in
      (λ i. membership_role (left i) ((same ∙ given) i)) ∙ ap (λ b. if_holds b predicate) (same_type-self t)

  onto-role : (around inner a : List ValueType) (n : ℕ) (rs : Formulas) (f : Formula) → ((r : Formula) → role table inner (lifted n 0 r) ≡ role table around r) → inner ≡ bind (element_types (roles table around rs)) a → each_gives_set (roles table around rs) ≡ true → role table inner f ≡ predicate → role table inner (ranges_onto n f rs) ≡ predicate
  onto-role around inner a n no_formulas f lift is g h = h
  onto-role around inner a n (formula_and r rs) f lift is g h =
      let k = and-both (gives_set (role table around r)) (each_gives_set (roles table around rs)) g in
      let t = element_type (role table around r) in
      let at : slice_get inner (count rs) ≡ Some t = ap (λ x. slice_get x (count rs)) is ∙ ap (slice_get (bind (element_types (roles table around rs)) (t ∷ a))) (sym (count-types table around rs)) ∙ last-behind (element_types (roles table around rs)) t a in
      let one = range-role around inner n (count rs) r (lift r) k.0 at in
      onto-role around inner (t ∷ a) n rs (binary And f (binary In (bound (count rs)) (lifted n 0 r))) lift is k.1 (λ i. connective_role (h i) (one i))

  ranges-role : (around : List ValueType) (rs : Formulas) → each_gives_set (roles table around rs) ≡ true → role table (bind (element_types (roles table around rs)) around) (in_ranges (count rs) rs) ≡ predicate
  ranges-role around no_formulas g = refl
  ranges-role around (formula_and r rs) g =
      let all : Formulas = formula_and r rs in
      let ts = element_types (roles table around all) in
      let inner = bind ts around in
      let lift : (x : Formula) → role table inner (lifted (count all) 0 x) ≡ role table around x = λ x. role-lifted-under table ts around (count all) (count-types table around all) x in
      let k = and-both (gives_set (role table around r)) (each_gives_set (roles table around rs)) g in
      let t = element_type (role table around r) in
      let at : slice_get inner (count rs) ≡ Some t = ap (slice_get (bind (element_types (roles table around rs)) (t ∷ around))) (sym (count-types table around rs)) ∙ last-behind (element_types (roles table around rs)) t around in
      onto-role around inner (t ∷ around) (count all) rs (binary In (bound (count rs)) (lifted (count all) 0 r)) lift refl k.1 (range-role around inner (count all) (count rs) r (lift r) k.0 at)

  elements-listed : (around : List ValueType) (rs : Formulas) → each_gives_set (roles table around rs) ≡ true → all_listed table (element_types (roles table around rs)) ≡ true
  elements-listed around no_formulas g = refl
  elements-listed around (formula_and r rs) g =
      let k = and-both (gives_set (role table around r)) (each_gives_set (roles table around rs)) g in
      let t = element_type (role table around r) in
      and-true (lists_type table t) (all_listed table (element_types (roles table around rs))) (gives-l around r (set_type t) (set-given (role table around r) k.0)) (elements-listed around rs k.1)

  -- ---- WD
  mutual
    pub defined-role : (around : List ValueType) (f : Formula) → IsTypedRole (role table around f) → role table around (defined table around f) ≡ predicate
    defined-role around (unary o a) h = both-role table around (defined table around a) (unary_own o a) (defined-role around a (unary-op o (role table around a) h)) (unary-own-role table around o a h)
    defined-role around (binary o a b) h =
        let k = binary-op o (role table around a) (role table around b) h in
        binary-defined-role table around o a b (defined table around a) (defined table around b) (gives-l around a) h (defined-role around a k.0) (defined-role around b k.1)
    defined-role around (for_all ts p) h =
        let body = role table (bind ts around) p in
        let k = holds-op (all_listed table ts) (if_predicate predicate body) h in
        over-role table around ts (defined table (bind ts around) p) k.0 (defined-role (bind ts around) p (predicate-op predicate body k.1).0)
    defined-role around (for_some ts p) h =
        let body = role table (bind ts around) p in
        let k = holds-op (all_listed table ts) (if_predicate predicate body) h in
        over-role table around ts (defined table (bind ts around) p) k.0 (defined-role (bind ts around) p (predicate-op predicate body k.1).0)
    defined-role around (comprehension rs p) h =
        let rr = roles table around rs in
        let ts = element_types rr in
        let inner = bind ts around in
        let k = holds-op (are_ranges rr) (if_predicate (gives (set_type (tuple_type ts))) (role table inner p)) h in
        let g = are-each rr k.0 in
        let body = defined-role inner p (predicate-op (gives (set_type (tuple_type ts))) (role table inner p) k.1).0 in
        both-role table around (all_defined table around btrue rs) (all_over ts (where_true (in_ranges (count rs) rs) (defined table inner p)))
        (defineds-role around btrue rs refl g)
        (over-role table around ts (where_true (in_ranges (count rs) rs) (defined table inner p)) (elements-listed around rs g) (where-role table inner (in_ranges (count rs) rs) (defined table inner p) (ranges-role around rs g) body))
    defined-role around (lambda rs p v) h =
        let rr = roles table around rs in
        let ts = element_types rr in
        let inner = bind ts around in
        let image = role table inner v in
        let result : ValueType → Role = λ u. gives (set_type (pair_type (tuple_type ts) u)) in
        let k = holds-op (are_ranges rr) (if_predicate (if_value result image) (role table inner p)) h in
        let g = are-each rr k.0 in
        let pv = predicate-op (if_value result image) (role table inner p) k.1 in
        let is : role table inner p ≡ predicate = predicate-is (if_value result image) (role table inner p) k.1 in
        let one = defined-role inner p pv.0 in
        let two = defined-role inner v (value-op result image pv.1).0 in
        let inside = where-role table inner (in_ranges (count rs) rs) (both (defined table inner p) (where_true p (defined table inner v))) (ranges-role around rs g)
        (both-role table inner (defined table inner p) (where_true p (defined table inner v)) one (where-role table inner p (defined table inner v) is two)) in
        both-role table around (all_defined table around btrue rs) (all_over ts (where_true (in_ranges (count rs) rs) (both (defined table inner p) (where_true p (defined table inner v)))))
        (defineds-role around btrue rs refl g) (over-role table around ts (where_true (in_ranges (count rs) rs) (both (defined table inner p) (where_true p (defined table inner v)))) (elements-listed around rs g) inside)
      where
        predicate-is : (r a : Role) → IsTypedRole (if_predicate r a) → a ≡ predicate
        predicate-is r predicate h = refl
        predicate-is r _ h = absurd h
    defined-role around _ h = refl

    defineds-role : (around : List ValueType) (f : Formula) (fs : Formulas) → role table around f ≡ predicate → each_gives_set (roles table around fs) ≡ true → role table around (all_defined table around f fs) ≡ predicate
    defineds-role around f no_formulas h g = h
    defineds-role around f (formula_and r rs) h g =
        let k = and-both (gives_set (role table around r)) (each_gives_set (roles table around rs)) g in
        defineds-role around (both f (defined table around r)) rs (both-role table around f (defined table around r) h (defined-role around r (each-typed-role (role table around r) k.0))) k.1

  pub defined-predicate : (p : Formula) → IsPredicate table p → IsPredicate table (defined table [] p)
  defined-predicate p h = defined-role [] p (subst IsTypedRole (sym h) tt)

  -- ---- Chk
  module _ (arrays : ArrayTable) (typed : AreTypedArrays table arrays) where
    pub index-role : (around : List ValueType) (d : ArrayDomain) (i : Formula) → role table around i ≡ gives (index_type d) → role table around (in_domain d i) ≡ predicate
    index-role around (Interval low high) i h = λ j. connective_role (numbers_role predicate (gives int_type) (h j)) (numbers_role predicate (h j) (gives int_type))
    index-role around OfBooleans i h = refl
    index-role around (OfElements n) i h = refl

    check-role : (around : List ValueType) (o : Option ArrayRow) (i : Formula) → ((row : ArrayRow) → o ≡ Some row → role table around i ≡ gives (index_type row.domain)) → role table around (index_check o i) ≡ predicate
    check-role around None i h = refl
    check-role around (Some row) i h = index-role around row.domain i (h row refl)

    -- an array's index is of the type of its indices
    apply-index : (around : List ValueType) (a b : Formula) → IsTypedRole (binary_role Apply (role table around a) (role table around b)) → (row : ArrayRow) → array_of arrays a ≡ Some row → role table around b ≡ gives (index_type row.domain)
    apply-index around (variable x) b h row q =
        let k = relation-is table around (λ t u. if_value (λ v. if_holds (same_type v t) (gives u)) (role table around b)) (role table around (variable x)) h in
        let w = value-is table around (λ v. if_holds (same_type v k.0) (gives k.1)) (role table around b) k.3 in
        let s : w.0 ≡ k.0 = same_type-then w.0 k.0 (holds-op (same_type w.0 k.0) (gives k.1) w.2).0 in
        let t = typed x row q in
        let e : gives (set_type (pair_type k.0 k.1)) ≡ gives (set_type (pair_type (index_type row.domain) t.0)) = sym k.2 ∙ ap given_by t.1 in
        let same : k.0 ≡ index_type row.domain = first-part k.0 k.1 (index_type row.domain) t.0 e in
        w.1 ∙ ap gives (s ∙ same)
    apply-index around a b h row q = absurd (cc)

    own-machine : (around : List ValueType) (f : Formula) → role table around f ≡ gives int_type → role table around (in_machine arrays.max f) ≡ predicate
    own-machine around f h = λ i. connective_role (numbers_role predicate (gives int_type) (h i)) (numbers_role predicate (h i) (gives int_type))

    number-given : (a b : Role) → IsTypedRole (numbers_role (gives int_type) a b) → numbers_role (gives int_type) a b ≡ gives int_type
    number-given a b h = let k = numbers-are table [] (gives int_type) a b h in λ i. numbers_role (gives int_type) (k.0 i) (k.1 i)

    own-role : (around : List ValueType) (o : BinOp) (a b : Formula) → IsTypedRole (binary_role o (role table around a) (role table around b)) → role table around (checked_own arrays o a b) ≡ predicate
    own-role around Add a b h = own-machine around (binary Add a b) (number-given (role table around a) (role table around b) h)
    own-role around Sub a b h = own-machine around (binary Sub a b) (number-given (role table around a) (role table around b) h)
    own-role around Mul a b h = own-machine around (binary Mul a b) (number-given (role table around a) (role table around b) h)
    own-role around Div a b h = let k = numbers-are table around (gives int_type) (role table around a) (role table around b) h in λ i. unary_role Not (equality_role (k.1 i) (gives int_type))
    own-role around Mod a b h =
        let k = numbers-are table around (gives int_type) (role table around a) (role table around b) h in
        λ i. connective_role (numbers_role predicate (gives int_type) (k.0 i)) (numbers_role predicate (gives int_type) (k.1 i))
    own-role around Apply a b h = check-role around (array_of arrays a) b (apply-index around a b h)
    own-role around _ a b h = refl

    checked-binary : (around : List ValueType) (o : BinOp) (a b p q : Formula) → IsTypedRole (binary_role o (role table around a) (role table around b)) → role table around p ≡ predicate → role table around q ≡ predicate →
        role table around (both (sides_asked (right_met o) a p q) (checked_own arrays o a b)) ≡ predicate
    checked-binary around And a b p q h hp hq = let k = connective-is table around (role table around a) (role table around b) h in both-role table around (both p (where_true a q)) btrue (both-role table around p (where_true a q) hp (where-role table around a q k.0 hq)) refl
    checked-binary around Imp a b p q h hp hq = let k = connective-is table around (role table around a) (role table around b) h in both-role table around (both p (where_true a q)) btrue (both-role table around p (where_true a q) hp (where-role table around a q k.0 hq)) refl
    checked-binary around Or a b p q h hp hq = let k = connective-is table around (role table around a) (role table around b) h in both-role table around (both p (where_true (unary Not a) q)) btrue (both-role table around p (where_true (unary Not a) q) hp (where-role table around (unary Not a) q (not-role table around a k.0) hq)) refl
    checked-binary around o a b p q h hp hq = both-role table around (both p q) (checked_own arrays o a b) (both-role table around p q hp hq) (own-role around o a b h)

    pub checked-role : (around : List ValueType) (f : Formula) → IsTypedRole (role table around f) → role table around (checked arrays f) ≡ predicate
    checked-role around (unary o a) h = checked-role around a (unary-op o (role table around a) h)
    checked-role around (binary o a b) h =
        let k = binary-op o (role table around a) (role table around b) h in
        checked-binary around o a b (checked arrays a) (checked arrays b) h (checked-role around a k.0) (checked-role around b k.1)
    checked-role around (for_all ts p) h =
        let body = role table (bind ts around) p in
        let k = holds-op (all_listed table ts) (if_predicate predicate body) h in
        over-role table around ts (checked arrays p) k.0 (checked-role (bind ts around) p (predicate-op predicate body k.1).0)
    checked-role around (for_some ts p) h =
        let body = role table (bind ts around) p in
        let k = holds-op (all_listed table ts) (if_predicate predicate body) h in
        over-role table around ts (checked arrays p) k.0 (checked-role (bind ts around) p (predicate-op predicate body k.1).0)
    checked-role around _ h = refl

pub conditions_are_predicates : ConditionsArePredicates
conditions_are_predicates = record {
  well_defined = λ table well f h. defined-role table well [] f h;
  executed = λ table well arrays typed f h. checked-role table well arrays typed [] f h;
}
