-- An equation of equal polynomials is true: of numbers by their values, of anything else since both sides are one formula.
use Rattle.std.proofs.Common.{◌≡◌, ◌⊎◌, inl, inr, pos, [], ◌∷◌, refl, sym, ◌∙◌, ap, subst, Bool, true, false, cond}
use Rattle.std.specs.Prelude.{Some, None}
use Rattle.bk_val.specs.Value.{MathValue, int}
use Rattle.bk_val.specs.ValueType.{ValueType, int_type, is_value_of}
use Rattle.bk_val.specs.CmpLaws.{value_eq-self}
use Rattle.bk_form.specs.Table.{Table, set_size, IsWellFormed}
use Rattle.bk_form.specs.Formula.{Formula, literal, unary, binary}
use Rattle.bk_form.specs.Search.{Finder, IsSearch}
use Rattle.bk_form.specs.Environment.{State, IsTyped, at_state}
use Rattle.bk_form.specs.Role.{gives, predicate, role}
use Rattle.bk_form.specs.Operators.{is_equal, number_in}
use Rattle.bk_form.specs.Meaning.{value, truth}
use Rattle.bk_form.specs.declared.operator.UnOp.TheVariants.{Neg}
use Rattle.bk_form.specs.declared.operator.BinOp.TheVariants.{Eq, Add, Sub, Mul}
use Rattle.bk_form.proofs.Roles.{if_number-gives}
use Rattle.bk_form.proofs.Valued.{typed-value, state-typed}
use Rattle.bk_form.proofs.Listed.{gives-same}
use Rattle.bk_arith.specs.Same.{is_same}
use Rattle.bk_arith.specs.Laws.{PolynomialIsValid}
use Rattle.bk_arith.proofs.SameFormula.{same-then}
use Rattle.bk_arith.proofs.PolynomialValues.{equal-numbers}
use Rattle.bk_form.proofs.RoleParts.{equality-parts, number-parts}
use Rattle.bk_arith.specs.Polynomials.{atom, polynomial, are_same, equal_polynomials, same_atoms, same_polynomials, is_zero, left_over}
use Rattle.std.specs.Ordering.{int_eq}

number-or-atom : (table : Table) (f : Formula) (t : ValueType) → role table [] f ≡ gives t → (t ≡ int_type) ⊎ (polynomial f ≡ atom f)
number-or-atom table (literal z) t h = inl (sym (gives-same int_type t h))
number-or-atom table (unary Neg a) t h = let k = if_number-gives (gives int_type) (role table [] a) t h in inl (sym (gives-same int_type t k.1))
number-or-atom table (unary o a) t h = inr refl
number-or-atom table (binary Add a b) t h = inl (number-parts (role table [] a) (role table [] b) t h).2
number-or-atom table (binary Sub a b) t h = inl (number-parts (role table [] a) (role table [] b) t h).2
number-or-atom table (binary Mul a b) t h = inl (number-parts (role table [] a) (role table [] b) t h).2
number-or-atom table (binary o a b) t h = inr refl
number-or-atom table f t h = inr refl

same-atom : (a b : Formula) → are_same (atom a) (atom b) ≡ true → a ≡ b
same-atom a b h = at (is_same a b) refl h
  where
    at : (c : Bool) → is_same a b ≡ c → are_same (atom a) (atom b) ≡ true → a ≡ b
    at true e k = same-then a b e
    at false e k =
        let never : are_same (atom a) (atom b) ≡ false = ap (λ c. cond (is_zero (pos 1, a ∷ [])) (same_polynomials [] ((pos 1, b ∷ []) ∷ [])) (left_over (same_polynomials []) (cond (left_over (same_atoms []) (cond c (Some []) None)) (cond (int_eq (pos 1) (pos 1)) (Some []) None) None))) e in
        let clash : true ≡ false = sym k ∙ never in
        absurd (cc)

module _ (table : Table) (well : IsWellFormed table) (find : Finder) (law : IsSearch find) (st : State) (typed : IsTyped (at_state table st)) where
  abbrev val : Formula → MathValue
  val f = value find (at_state table st) f

  a-number : (v : MathValue) → is_value_of (set_size table) int_type v ≡ true → v ≡ int (number_in v)
  a-number (int z) h = refl
  a-number _ h = absurd (cc)

  equal-self : (a b : Formula) → val a ≡ val b → is_equal (val a) (val b) ≡ true
  equal-self a b h = subst (λ v. is_equal (val a) v ≡ true) h (value_eq-self (val a))

  as-numbers : (a b : Formula) → role table [] a ≡ gives int_type → role table [] b ≡ gives int_type → equal_polynomials a b ≡ true → val a ≡ val b
  as-numbers a b h k same =
      a-number (val a) (typed-value find (at_state table st) well typed a int_type h)
      ∙ ap int (equal-numbers find (at_state table st) a b same)
      ∙ sym (a-number (val b) (typed-value find (at_state table st) well typed b int_type k))

  equal-values : (a b : Formula) (t : ValueType) → role table [] a ≡ gives t → role table [] b ≡ gives t → equal_polynomials a b ≡ true → val a ≡ val b
  equal-values a b t h k same = elim (number-or-atom table a t h) [
    | inl e ↦ as-numbers a b (h ∙ ap gives e) (k ∙ ap gives e) same
    | inr p ↦ elim (number-or-atom table b t k) [
      | inl e ↦ as-numbers a b (h ∙ ap gives e) (k ∙ ap gives e) same
      | inr q ↦ ap val (same-atom a b (sym (λ i. are_same (p i) (q i)) ∙ same))
    ]
  ]

  -- an equation that types
  pub equation-true : (a b : Formula) → role table [] (binary Eq a b) ≡ predicate → equal_polynomials a b ≡ true → truth find (at_state table st) (binary Eq a b) ≡ true
  equation-true a b p same =
      let m = equality-parts (role table [] a) (role table [] b) p in
      equal-self a b (equal-values a b m.0 m.1 m.2 same)

pub polynomial_is_valid : PolynomialIsValid
polynomial_is_valid table well a b p same find law st typed hold = equation-true table well find law st (state-typed table st typed) a b p same
