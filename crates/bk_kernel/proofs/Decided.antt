-- What is decided is so.
use Rattle.std.proofs.Common.{◌≡◌, ℕ, ℤ, pos, refl, sym, ◌∙◌, ap, subst, Bool, true, false, ◌&&◌, nat_eq, arith}
use Rattle.std.proofs.lemmas.Bool.Decides.{nat_tests}
use Rattle.bk_form.proofs.Members.{both_ways, and-true, and-both}
use Rattle.std.specs.Prelude.{Option, Some, int_lt, int_le}
use Rattle.std.specs.Ordering.{int_eq}
use Rattle.bk_val.specs.Value.{elem}
use Rattle.bk_val.specs.CmpLaws.{same_value, value_eq-self}
use Rattle.bk_form.specs.Formula.{Formula, named, truth_value, element, binary}
use Rattle.bk_form.specs.Search.{Finder}
use Rattle.bk_form.specs.Environment.{Environment}
use Rattle.bk_form.specs.Operators.{is_equal, number_in}
use Rattle.bk_form.specs.Meaning.{value, truth, within}
use Rattle.bk_form.specs.declared.operator.BinOp.{BinOp}
use Rattle.bk_form.specs.declared.operator.BinOp.TheVariants.{Eq, Lt, Le, In, Range}
use Rattle.bk_form.specs.declared.operator.Domain.TheVariants.{Natural, Natural1}
use Rattle.bk_form.proofs.Domains.{interval-members}
use Rattle.bk_arith.specs.ClosedSum.{closed_sum}
use Rattle.bk_arith.proofs.ClosedValues.{closed-value}
use Rattle.bk_kernel.specs.Deciding.{compared, both_true, decided_in, decided_by, decided, equal_constants}
use Rattle.bk_arith.proofs.Options.{some-same}

eq-self : (n : ℕ) → nat_eq n n ≡ true
eq-self n = grind (arith, nat_tests)

eq-then : (m n : ℕ) → nat_eq m n ≡ true → m ≡ n
eq-then m n h = grind (arith, nat_tests)

pub record Passes (test : ℤ → ℤ → Bool) (r s : Option ℤ) (b : Bool) : Type 0 where
  pub left : ℤ
  pub right : ℤ
  pub is_left : r ≡ Some left
  pub is_right : s ≡ Some right
  pub passes : test left right ≡ b

passed : (test : ℤ → ℤ → Bool) (r s : Option ℤ) (b : Bool) → compared test r s ≡ Some b → Passes test r s b
passed test (Some x) (Some y) b h = record { left = x; right = y; is_left = refl; is_right = refl; passes = some-same (test x y) b h }
passed test _ _ b h = absurd (cc)

both-then : (p q : Option Bool) (b : Bool) → both_true p q ≡ Some b → (c : Bool) × (d : Bool) × (p ≡ Some c) × (q ≡ Some d) × ((c && d) ≡ b)
both-then (Some c) (Some d) b h = (c, d, refl, refl, some-same (c && d) b h)
both-then _ _ b h = absurd (cc)

module _ (find : Finder) (e : Environment) where
  in-decided : (a b : Formula) (c : Bool) → decided_in (closed_sum a) b ≡ Some c → within find e (value find e a) b ≡ c
  in-decided a (named Natural) c h =
      let p = passed int_le (Some (pos 0)) (closed_sum a) c h in
      let l : pos 0 ≡ p.left = cc (p.is_left) in
      rw (closed-value find e a p.right p.is_right) (subst (λ x. int_le x p.right ≡ c) (sym l) p.passes)
  in-decided a (named Natural1) c h =
      let p = passed int_le (Some (pos 1)) (closed_sum a) c h in
      let l : pos 1 ≡ p.left = cc (p.is_left) in
      rw (closed-value find e a p.right p.is_right) (subst (λ x. int_le x p.right ≡ c) (sym l) p.passes)
  in-decided a (binary Range l u) c h =
      let k = both-then (compared int_le (closed_sum l) (closed_sum a)) (compared int_le (closed_sum a) (closed_sum u)) c h in
      let p = passed int_le (closed_sum l) (closed_sum a) k.0 k.2 in
      let q = passed int_le (closed_sum a) (closed_sum u) k.1 k.3 in
      let same : q.left ≡ p.right = some-same q.left p.right (sym q.is_left ∙ p.is_right) in
      let low : number_in (value find e l) ≡ p.left = ap number_in (closed-value find e l p.left p.is_left) in
      let high : number_in (value find e u) ≡ q.right = ap number_in (closed-value find e u q.right q.is_right) in
      ap (λ v. within find e v (binary Range l u)) (closed-value find e a p.right p.is_right)
      ∙ interval-members.numbers find e l u p.right
      ∙ (λ i. int_le (low i) p.right && int_le (sym same i) (high i))
      ∙ (λ i. p.passes i && q.passes i)
      ∙ k.4
  in-decided a _ c h = absurd (cc)

  by-decided : (o : BinOp) (a b : Formula) (c : Bool) → decided_by o a b ≡ Some c → truth find e (binary o a b) ≡ c
  by-decided Eq a b c h =
      let p = passed int_eq (closed_sum a) (closed_sum b) c h in
      rw (closed-value find e a p.left p.is_left, closed-value find e b p.right p.is_right) p.passes
  by-decided Lt a b c h =
      let p = passed int_lt (closed_sum a) (closed_sum b) c h in
      rw (closed-value find e a p.left p.is_left, closed-value find e b p.right p.is_right) p.passes
  by-decided Le a b c h =
      let p = passed int_le (closed_sum a) (closed_sum b) c h in
      rw (closed-value find e a p.left p.is_left, closed-value find e b p.right p.is_right) p.passes
  by-decided In a b c h = in-decided a b c h
  by-decided _ a b c h = absurd (cc)

  pub decided-true : (f : Formula) (c : Bool) → decided f ≡ Some c → truth find e f ≡ c
  decided-true (binary o a b) c h = by-decided o a b c h
  decided-true _ c h = absurd (cc)

  pub constants-equal : (a b : Formula) (c : Bool) → equal_constants a b ≡ Some c → truth find e (binary Eq a b) ≡ c
  constants-equal (truth_value true) (truth_value true) c h = some-same true c h
  constants-equal (truth_value true) (truth_value false) c h = some-same false c h
  constants-equal (truth_value false) (truth_value true) c h = some-same false c h
  constants-equal (truth_value false) (truth_value false) c h = some-same true c h
  constants-equal (element s i) (element r j) c h = elements-equal s r i j ∙ some-same (nat_eq s r && nat_eq i j) c h
    where
      elements-equal : (s r i j : ℕ) → is_equal (elem s i) (elem r j) ≡ (nat_eq s r && nat_eq i j)
      elements-equal s r i j = both_ways (is_equal (elem s i) (elem r j)) (nat_eq s r && nat_eq i j)
          (λ k. let q = same_value (elem s i) (elem r j) k in let l : s ≡ r = cc in let m : i ≡ j = cc in and-true (nat_eq s r) (nat_eq i j) (subst (λ x. nat_eq s x ≡ true) l (eq-self s)) (subst (λ x. nat_eq i x ≡ true) m (eq-self i)))
          (λ k. let w = and-both (nat_eq s r) (nat_eq i j) k in subst (λ x. is_equal (elem s i) x ≡ true) (λ n. elem (eq-then s r w.0 n) (eq-then i j w.1 n)) (value_eq-self (elem s i)))
  constants-equal _ _ c h = absurd (cc)
