-- Obvious sequents are valid.
use Rattle.std.proofs.Common.{◌≡◌, ◌⊎◌, inl, inr, ℕ, ℤ, pos, List, [], ◌∷◌, refl, sym, ap, subst, Bool, true, false}
use Rattle.std.specs.Prelude.{Option, Some, int_lt, int_le}
use Rattle.std.specs.List.{list_any}
use Rattle.std.specs.Ordering.{int_eq}
use Rattle.bk_val.specs.Value.{MathValue, int, bool, elem}
use Rattle.bk_val.specs.ValueType.{ValueType, int_type, bool_type, enum_type, set_type, is_value_of}
use Rattle.bk_val.specs.CmpLaws.{value_eq-self}
use Rattle.bk_form.specs.Table.{set_size, lists_type, IsWellFormed}
use Rattle.bk_form.specs.Formula.{Formula, named, binary}
use Rattle.bk_form.specs.Search.{Finder}
use Rattle.bk_form.specs.Environment.{Environment, bound_types, IsTyped, at_state}
use Rattle.bk_form.specs.Role.{Role, gives, ranges_over, predicate, if_holds, same_type, membership_role, binary_role, role}
use Rattle.bk_form.specs.Operators.{is_equal, number_in, is_in_named}
use Rattle.bk_form.specs.Meaning.{value, truth, within}
use Rattle.bk_form.specs.declared.operator.BinOp.{BinOp}
use Rattle.bk_form.specs.declared.operator.BinOp.TheVariants.{Eq, Lt, Le, In, Range}
use Rattle.bk_form.specs.declared.operator.Domain.TheVariants.{Integer, Natural, Natural1, Bool as Booleans, Enum}
use Rattle.bk_form.proofs.Members.{or-cases, and-true, and-both}
use Rattle.bk_form.proofs.Roles.{same_type-then}
use Rattle.bk_form.proofs.Domains.{interval-members}
use Rattle.bk_form.proofs.Valued.{sound_typing, state-typed}
use Rattle.bk_form.specs.Predicates.{AllHold}
use Rattle.bk_arith.specs.ClosedSum.{closed_sum}
use Rattle.bk_arith.specs.Same.{is_same}
use Rattle.bk_kernel.specs.Obvious.{both_pass, has_all, has_number, holds_plainly, is_plain}
use Rattle.bk_kernel.specs.Laws.{ObviousIsValid}
use Rattle.bk_arith.proofs.SameFormula.{same-then}
use Rattle.bk_arith.proofs.ClosedValues.{closed-value}

-- ---- the type of a member
holds-then : (b : Bool) → if_holds b predicate ≡ predicate → b ≡ true
holds-then true h = refl
holds-then false h = absurd (cc)

of-range : (r : Role) (t : ValueType) → membership_role r (ranges_over t) ≡ predicate → r ≡ gives t
of-range (gives u) t h = ap gives (same_type-then u t (holds-then (same_type u t) h))
of-range _ t h = absurd (cc)

of-set : (b : Bool) (r : Role) (t : ValueType) → membership_role r (if_holds b (gives (set_type t))) ≡ predicate → r ≡ gives t
of-set true (gives u) t h = ap gives (same_type-then u t (holds-then (same_type u t) h))
of-set true _ t h = absurd (cc)
of-set false (gives u) t h = absurd (cc)
of-set false _ t h = absurd (cc)

in_integer : (sizes : ℕ → ℕ) (v : MathValue) → is_value_of sizes int_type v ≡ true → is_in_named sizes Integer v ≡ true
in_integer sizes (int z) h = refl
in_integer sizes _ h = absurd (cc)

in_bool : (sizes : ℕ → ℕ) (v : MathValue) → is_value_of sizes bool_type v ≡ true → is_in_named sizes Booleans v ≡ true
in_bool sizes (bool b) h = refl
in_bool sizes _ h = absurd (cc)

in_enum : (sizes : ℕ → ℕ) (n : ℕ) (v : MathValue) → is_value_of sizes (enum_type n) v ≡ true → is_in_named sizes (Enum n) v ≡ true
in_enum sizes n (elem s i) h = h
in_enum sizes n _ h = absurd (cc)

-- ---- comparisons
record Passes (test : ℤ → ℤ → Bool) (r s : Option ℤ) : Type 0 where
  left : ℤ
  right : ℤ
  is_left : r ≡ Some left
  is_right : s ≡ Some right
  passes : test left right ≡ true

passed : (test : ℤ → ℤ → Bool) (r s : Option ℤ) → both_pass test r s ≡ true → Passes test r s
passed test (Some x) (Some y) h = record { left = x; right = y; is_left = refl; is_right = refl; passes = h }
passed test _ _ h = absurd (cc)

module _ (find : Finder) (e : Environment) (well : IsWellFormed e.table) (typed : IsTyped e) where
  typed-value : (a : Formula) (t : ValueType) → role e.table (bound_types e) a ≡ gives t → is_value_of (set_size e.table) t (value find e a) ≡ true
  typed-value a t h = sound_typing.typed find e well typed a t h

  member-of-all : (a b : Formula) → membership_role (role e.table (bound_types e) a) (role e.table (bound_types e) b) ≡ predicate → has_all b ≡ true → within find e (value find e a) b ≡ true
  member-of-all a (named Integer) r h = in_integer (set_size e.table) (value find e a) (typed-value a int_type (of-range (role e.table (bound_types e) a) int_type r))
  member-of-all a (named Booleans) r h = in_bool (set_size e.table) (value find e a) (typed-value a bool_type (of-set true (role e.table (bound_types e) a) bool_type r))
  member-of-all a (named (Enum n)) r h = in_enum (set_size e.table) n (value find e a) (typed-value a (enum_type n) (of-set (lists_type e.table (enum_type n)) (role e.table (bound_types e) a) (enum_type n) r))
  member-of-all a _ r h = absurd (cc)

  number-is-in : (a b : Formula) → has_number (closed_sum a) b ≡ true → within find e (value find e a) b ≡ true
  number-is-in a (named Natural) h =
      let p = passed int_le (Some (pos 0)) (closed_sum a) h in
      let l : pos 0 ≡ p.left = cc (p.is_left) in
      rw (closed-value find e a p.right p.is_right) (subst (λ x. int_le x p.right ≡ true) (sym l) p.passes)
  number-is-in a (named Natural1) h =
      let p = passed int_le (Some (pos 1)) (closed_sum a) h in
      let l : pos 1 ≡ p.left = cc (p.is_left) in
      rw (closed-value find e a p.right p.is_right) (subst (λ x. int_le x p.right ≡ true) (sym l) p.passes)
  number-is-in a (binary Range b c) h =
      let k = and-both (both_pass int_le (closed_sum b) (closed_sum a)) (both_pass int_le (closed_sum a) (closed_sum c)) h in
      let p = passed int_le (closed_sum b) (closed_sum a) k.0 in
      let q = passed int_le (closed_sum a) (closed_sum c) k.1 in
      let low : number_in (value find e b) ≡ p.left = ap number_in (closed-value find e b p.left p.is_left) in
      let high : number_in (value find e c) ≡ q.right = ap number_in (closed-value find e c q.right q.is_right) in
      let one : number_in (value find e a) ≡ p.right = ap number_in (closed-value find e a p.right p.is_right) in
      let other : number_in (value find e a) ≡ q.left = ap number_in (closed-value find e a q.left q.is_left) in
      let l : int_le (number_in (value find e b)) p.right ≡ true = rw low p.passes in
      let m : int_le q.left (number_in (value find e c)) ≡ true = rw high q.passes in
      let same : q.left ≡ p.right = cc in
      let n : int_le p.right (number_in (value find e c)) ≡ true = subst (λ x. int_le x (number_in (value find e c)) ≡ true) same m in
      let between = and-true (int_le (number_in (value find e b)) p.right) (int_le p.right (number_in (value find e c))) l n in
      let inside : within find e (int p.right) (binary Range b c) ≡ true = rw (interval-members.numbers find e b c p.right) between in
      subst (λ v. within find e v (binary Range b c) ≡ true) (sym (closed-value find e a p.right p.is_right)) inside
  number-is-in a _ h = absurd (cc)

  equal-if : (a b : Formula) → (is_same a b ≡ true) ⊎ (both_pass int_eq (closed_sum a) (closed_sum b) ≡ true) → is_equal (value find e a) (value find e b) ≡ true
  equal-if a b (inl s) = subst (λ x. is_equal (value find e a) (value find e x) ≡ true) (same-then a b s) (value_eq-self (value find e a))
  equal-if a b (inr h) =
      let p = passed int_eq (closed_sum a) (closed_sum b) h in
      rw (closed-value find e a p.left p.is_left, closed-value find e b p.right p.is_right) p.passes

  in-if : (a b : Formula) → membership_role (role e.table (bound_types e) a) (role e.table (bound_types e) b) ≡ predicate → (has_all b ≡ true) ⊎ (has_number (closed_sum a) b ≡ true) → within find e (value find e a) b ≡ true
  in-if a b r (inl h) = member-of-all a b r h
  in-if a b r (inr h) = number-is-in a b h

  holds-if : (o : BinOp) (a b : Formula) → binary_role o (role e.table (bound_types e) a) (role e.table (bound_types e) b) ≡ predicate → holds_plainly o a b ≡ true → truth find e (binary o a b) ≡ true
  holds-if Eq a b r h = equal-if a b (or-cases (is_same a b) (both_pass int_eq (closed_sum a) (closed_sum b)) h)
  holds-if Lt a b r h =
      let p = passed int_lt (closed_sum a) (closed_sum b) h in
      rw (closed-value find e a p.left p.is_left, closed-value find e b p.right p.is_right) p.passes
  holds-if Le a b r h =
      let p = passed int_le (closed_sum a) (closed_sum b) h in
      rw (closed-value find e a p.left p.is_left, closed-value find e b p.right p.is_right) p.passes
  holds-if In a b r h = in-if a b r (or-cases (has_all b) (has_number (closed_sum a) b) h)
  holds-if _ a b r h = absurd (cc)

  plain-holds : (goal : Formula) → role e.table (bound_types e) goal ≡ predicate → is_plain goal ≡ true → truth find e goal ≡ true
  plain-holds (binary o a b) r h = holds-if o a b r h
  plain-holds _ r h = absurd (cc)

-- ---- a goal among the hypotheses
assumed : (find : Finder) (e : Environment) (hyps : List Formula) (goal : Formula) → list_any (is_same goal) hyps ≡ true → AllHold find e hyps → truth find e goal ≡ true
assumed find e [] goal h hold = absurd (cc)
assumed find e (p ∷ ps) goal h hold = elim (or-cases (is_same goal p) (list_any (is_same goal) ps) h) [
  | inl s ↦ subst (λ x. truth find e x ≡ true) (sym (same-then goal p s)) hold.0
  | inr k ↦ assumed find e ps goal k hold.1
]

pub obvious_is_valid : ObviousIsValid
obvious_is_valid table well hyps goal types h find law state typed hold = elim (or-cases (list_any (is_same goal) hyps) (is_plain goal) h) [
  | inl k ↦ assumed find (at_state table state) hyps goal k hold
  | inr k ↦ plain-holds find (at_state table state) well (state-typed table state typed) goal types k
]
