-- The rows of order: comparisons, products, quotients, remainders and powers.
use Rattle.std.proofs.Common.{◌≡◌, refl, sym, ◌∙◌, ap, subst, true, ◌||◌, not, ℤ, pos, negsuc, ◌*ℤ◌, ℕ, suc, arith, zero, ◌+ℤ◌, ◌-ℤ◌, ◌&&◌, ◌≤ℤ◌, ◌<ℤ◌}
use Rattle.std.specs.Prelude.{int_le, int_lt}
use Rattle.std.proofs.lemmas.Int.{ints, quot-rem, by_lt_z}
use Rattle.bk_val.specs.Value.{MathValue, int}
use Rattle.bk_val.specs.CmpLaws.{value_eq-self, same_value}
use Rattle.bk_form.specs.Formula.{binary, literal}
use Rattle.bk_form.specs.Environment.{bound_types}
use Rattle.bk_form.specs.Role.{role}
use Rattle.bk_form.specs.Table.{set_size}
use Rattle.bk_form.specs.Operators.{is_equal, number_in, is_in_named}
use Rattle.bk_form.specs.Meaning.{value}
use Rattle.bk_form.specs.declared.operator.BinOp.TheVariants.{Le, Lt, Sub, Div}
use Rattle.bk_form.proofs.Members.{both_ways, and-both, and-true}
use Rattle.bk_val.specs.Number.{quotient_of, remainder_of, power_of}
use Rattle.bk_val.proofs.Powers.{power_of-more, power_of-zero}
use Rattle.bk_form.proofs.Domains.{interval-members}
use Rattle.std.proofs.Math.Nat.{mod-lt}
use Rattle.std.proofs.Math.IntN.{suc_ℤ-*ℤ, zero-*ℤ, *ℤ_comm}
use Rattle.bk_form.specs.declared.operator.Domain.TheVariants.{Natural as AllNatural, Natural1 as Positive}
use Rattle.bk_laws.specs.Rows.{built}
use Rattle.bk_laws.specs.Laws.{IsTrueRow}
use Rattle.bk_form.specs.Settings.{GivesIn}
use Rattle.bk_form.proofs.RoleParts.{number-parts, comparison-parts, equality-parts}
use Rattle.bk_form.proofs.SetMembers.{and-parts, or-parts}
use Rattle.bk_laws.proofs.Numbers.{number-of, le-then, le-if, in-range}
use Rattle.bk_laws.proofs.ByForm.{by_truth, by_value}
use Rattle.bk_laws_log.specs.Order.{o1, o2, o3, o4, o5, o6, o7, o8, o9, o10, o11, o12, o13, o14, o15}

equal-numbers : (v w : MathValue) → v ≡ int (number_in v) → w ≡ int (number_in w) → is_equal v w ≡ (int_le (number_in v) (number_in w) && int_le (number_in w) (number_in v))
equal-numbers v w p q =
    let x = number_in v in let y = number_in w in
    both_ways (is_equal v w) (int_le x y && int_le y x)
    (λ h. let same : x ≡ y = ap number_in (same_value v w h) in and-true (int_le x y) (int_le y x) (at-most x y same) (at-most y x (sym same)))
    (λ h. let k = and-both (int_le x y) (int_le y x) h in subst (λ z. is_equal v z ≡ true) (p ∙ ap int (both-most x y k.0 k.1) ∙ sym q) (value_eq-self v))
  where
    at-most : (x y : ℤ) → x ≡ y → int_le x y ≡ true
    at-most x y h = le-if x y (omega (arith, ints))

    both-most : (x y : ℤ) → int_le x y ≡ true → int_le y x ≡ true → x ≡ y
    both-most x y h k = let p = le-then x y h in let q = le-then y x k in omega (arith, ints)

pub true-o1 : IsTrueRow o1
true-o1 picks = by_truth (built o1 picks) refl (λ find e c l r s.
    let a = picks 0 in let b = picks 1 in
    let k = comparison-parts (role e.table (bound_types e) a) (role e.table (bound_types e) b) (and-parts find e (binary Le a b) (binary Le b a) r).0 in
    equal-numbers (value find e a) (value find e b) (number-of find e c a k.0) (number-of find e c b k.1))

less-next : (x y : ℤ) → int_lt x y ≡ int_le (x +ℤ pos 1) y
less-next x y = grind (arith, ints)

pub true-o2 : IsTrueRow o2
true-o2 picks = by_truth (built o2 picks) refl (λ find e c l r s. less-next (number_in (value find e (picks 0))) (number_in (value find e (picks 1))))

not-less : (a b : ℤ) → not (int_lt a b) ≡ int_le b a
not-less a b = grind (arith, ints)

pub true-o3 : IsTrueRow o3
true-o3 picks = by_truth (built o3 picks) refl (λ find e c l r s. not-less (number_in (value find e (picks 0))) (number_in (value find e (picks 1))))

not-at-most : (x y : ℤ) → not (int_le x y) ≡ int_lt y x
not-at-most x y = grind (arith, ints)

pub true-o4 : IsTrueRow o4
true-o4 picks = by_truth (built o4 picks) refl (λ find e c l r s. not-at-most (number_in (value find e (picks 0))) (number_in (value find e (picks 1))))

pub true-o5 : IsTrueRow o5
true-o5 picks = by_truth (built o5 picks) refl (λ find e c l r s.
    let a = picks 0 in let b = picks 1 in let d = picks 2 in
    let k = comparison-parts (role e.table (bound_types e) b) (role e.table (bound_types e) a) (and-parts find e (binary Le b a) (binary Le a d) r).0 in
    in-range find e b d (value find e a) (number-of find e c a k.1))

pub true-o6 : IsTrueRow o6
true-o6 picks = by_truth (built o6 picks) refl (λ find e c l r s.
    let a = picks 0 in
    let k = comparison-parts (role e.table (bound_types e) (literal (pos 0))) (role e.table (bound_types e) a) r in
    subst (λ v. is_in_named (set_size e.table) AllNatural v ≡ int_le (pos 0) (number_in v)) (sym (number-of find e c a k.1)) refl)

pub true-o7 : IsTrueRow o7
true-o7 picks = by_truth (built o7 picks) refl (λ find e c l r s.
    let a = picks 0 in
    let k = comparison-parts (role e.table (bound_types e) (literal (pos 1))) (role e.table (bound_types e) a) r in
    subst (λ v. is_in_named (set_size e.table) Positive v ≡ int_le (pos 1) (number_in v)) (sym (number-of find e c a k.1)) refl)

not-both : (x y : ℤ) → not (int_le x y && int_le y x) ≡ (int_lt x y || int_lt y x)
not-both x y = grind (arith, ints)

pub true-o8 : IsTrueRow o8
true-o8 picks = by_truth (built o8 picks) refl (λ find e c l r s.
    let a = picks 0 in let b = picks 1 in
    let k = comparison-parts (role e.table (bound_types e) a) (role e.table (bound_types e) b) (or-parts find e (binary Lt a b) (binary Lt b a) r).0 in
    ap not (equal-numbers (value find e a) (value find e b) (number-of find e c a k.0) (number-of find e c b k.1)) ∙ not-both (number_in (value find e a)) (number_in (value find e b)))

one-more-time : (x : ℤ) (n : ℕ) → (x *ℤ pos (suc n)) ≡ ((x *ℤ pos n) +ℤ x)
one-more-time x n = *ℤ_comm x (pos (suc n)) ∙ suc_ℤ-*ℤ (pos n) x ∙ ap (λ s. s +ℤ x) (*ℤ_comm (pos n) x)

no-time : (x : ℤ) → (x *ℤ pos 0) ≡ pos 0
no-time x = *ℤ_comm x (pos 0) ∙ zero-*ℤ x

product-most : (a b c : ℤ) → a ≤ℤ b → pos 0 ≤ℤ c → (a *ℤ c) ≤ℤ (b *ℤ c)
product-most a b (pos zero) h k = let p = no-time a in let q = no-time b in omega (arith, ints, p, q)
product-most a b (pos (suc n)) h k =
    let p = one-more-time a n in
    let q = one-more-time b n in
    let m = product-most a b (pos n) h (omega (arith, ints)) in
    omega (arith, ints, p, q, m)
product-most a b (negsuc n) h k = absurd (omega (arith, ints))

-- a multiple of less leaves room for one more
product-less : (a b c : ℤ) → a <ℤ b → pos 0 ≤ℤ c → ((a *ℤ c) +ℤ c) ≤ℤ (b *ℤ c)
product-less a b (pos zero) h k = let p = no-time a in let q = no-time b in omega (arith, ints, p, q)
product-less a b (pos (suc n)) h k =
    let p = one-more-time a n in
    let q = one-more-time b n in
    let m = product-less a b (pos n) h (omega (arith, ints)) in
    omega (arith, ints, p, q, m)
product-less a b (negsuc n) h k = absurd (omega (arith, ints))

quotient-between : (a b : ℤ) → int_le (pos 0) a ≡ true → int_lt (pos 0) b ≡ true → ((quotient_of a b *ℤ b) ≤ℤ a) × (a <ℤ ((quotient_of a b *ℤ b) +ℤ b))
quotient-between (pos a) (pos zero) h k = absurd (cc)
quotient-between (pos a) (pos (suc b)) h k = let q = quot-rem (pos a) (pos (suc b)) in let m = mod-lt a {m = suc b} (omega arith) in (omega (arith, ints, q, m), omega (arith, ints, q, m))
quotient-between (pos a) (negsuc b) h k = absurd (cc)
quotient-between (negsuc a) b h k = absurd (cc)

one-quotient : (a b d q : ℤ) → pos 0 ≤ℤ b → (d *ℤ b) ≤ℤ a → a <ℤ ((d *ℤ b) +ℤ b) → (q *ℤ b) ≤ℤ a → a <ℤ ((q *ℤ b) +ℤ b) → d ≡ q
one-quotient a b d q n h k m o =
    by_lt_z d q
    (λ g. let p = product-less d q b g n in absurd (omega (arith, ints, p, k, m)))
    (λ g. by_lt_z q d
    (λ f. let p = product-less q d b f n in absurd (omega (arith, ints, p, h, o)))
    (λ f. omega (arith, ints)))

lt-then : (x y : ℤ) → int_lt x y ≡ true → x <ℤ y
lt-then x y h = grind (arith, ints)

lt-if : (x y : ℤ) → x <ℤ y → int_lt x y ≡ true
lt-if x y h = grind (arith, ints)

pub true-o9 : IsTrueRow o9
true-o9 picks = by_truth (built o9 picks) refl (λ find e c l r s.
    let x = number_in (value find e (picks 0)) in let y = number_in (value find e (picks 1)) in
    let w = value find e (picks 2) in let q = number_in w in
    let k = equality-parts (role e.table (bound_types e) (binary Div (picks 0) (picks 1))) (role e.table (bound_types e) (picks 2)) l in
    let n = number-parts (role e.table (bound_types e) (picks 0)) (role e.table (bound_types e) (picks 1)) k.0 k.1 in
    let number = number-of find e c (picks 2) (subst (λ t. GivesIn e (picks 2) t) n.2 k.2) in
    let d = quotient_of x y in
    let bounds = quotient-between x y s.1 s.2.1 in
    let below = int_le (q *ℤ y) x in let above = int_lt x ((q *ℤ y) +ℤ y) in
    both_ways (is_equal (int d) w) (below && above)
    (λ h. let same : d ≡ q = ap number_in (same_value (int d) w h) in
    and-true below above (le-if (q *ℤ y) x (subst (λ z. (z *ℤ y) ≤ℤ x) same bounds.0)) (lt-if x ((q *ℤ y) +ℤ y) (subst (λ z. x <ℤ ((z *ℤ y) +ℤ y)) same bounds.1)))
    (λ h. let m = and-both below above h in
    let same = one-quotient x y d q (positive y (lt-then (pos 0) y s.2.1)) bounds.0 bounds.1 (le-then (q *ℤ y) x m.0) (lt-then x ((q *ℤ y) +ℤ y) m.1) in
    subst (λ z. is_equal (int d) z ≡ true) (ap int same ∙ sym number) (value_eq-self (int d))))
  where
    positive : (y : ℤ) → pos 0 <ℤ y → pos 0 ≤ℤ y
    positive y h = omega (arith, ints)

rest-is : (a b : ℤ) → int_le (pos 0) a ≡ true → int_lt (pos 0) b ≡ true → remainder_of a b ≡ (a -ℤ (b *ℤ quotient_of a b))
rest-is (pos a) (pos zero) h k = absurd (cc)
rest-is (pos a) (pos (suc b)) h k = let q = quot-rem (pos a) (pos (suc b)) in omega (arith, ints, q)
rest-is (pos a) (negsuc b) h k = absurd (cc)
rest-is (negsuc a) b h k = absurd (cc)

pub true-o10 : IsTrueRow o10
true-o10 picks = by_value (built o10 picks) refl (λ find e c t l r s. ap int (rest-is (number_in (value find e (picks 0))) (number_in (value find e (picks 1))) s.1 s.2.1))

rest-between : (a b : ℤ) → int_le (pos 0) a ≡ true → int_lt (pos 0) b ≡ true → (int_le (pos 0) (remainder_of a b) && int_le (remainder_of a b) (b -ℤ pos 1)) ≡ true
rest-between (pos a) (pos zero) h k = absurd (cc)
rest-between (pos a) (pos (suc b)) h k = let m = mod-lt a {m = suc b} (omega arith) in and-true (int_le (pos 0) (remainder_of (pos a) (pos (suc b)))) (int_le (remainder_of (pos a) (pos (suc b))) (pos (suc b) -ℤ pos 1)) (le-if (pos 0) (remainder_of (pos a) (pos (suc b))) (omega (arith, ints))) (le-if (remainder_of (pos a) (pos (suc b))) (pos (suc b) -ℤ pos 1) (omega (arith, ints, m)))
rest-between (pos a) (negsuc b) h k = absurd (cc)
rest-between (negsuc a) b h k = absurd (cc)

pub true-o11 : IsTrueRow o11
true-o11 picks = by_truth (built o11 picks) refl (λ find e c l r s.
    let x = number_in (value find e (picks 0)) in let y = number_in (value find e (picks 1)) in
    interval-members.numbers find e (literal (pos 0)) (binary Sub (picks 1) (literal (pos 1))) (remainder_of x y) ∙ rest-between x y s.1 s.2.1)

pub true-o12 : IsTrueRow o12
true-o12 picks = by_value (built o12 picks) refl (λ find e c t l r s. ap int (power_of-zero (number_in (value find e (picks 0)))))

next-power : (a b : ℤ) → int_le (pos 0) b ≡ true → power_of a (b +ℤ pos 1) ≡ (a *ℤ power_of a b)
next-power a (pos n) h = power_of-more a n ∙ swap (power_of a (pos n)) a
  where
    swap : (x y : ℤ) → (x *ℤ y) ≡ (y *ℤ x)
    swap x y = omega (arith, ints)
next-power a (negsuc n) h = absurd (cc)

pub true-o13 : IsTrueRow o13
true-o13 picks = by_value (built o13 picks) refl (λ find e c t l r s. ap int (next-power (number_in (value find e (picks 0))) (number_in (value find e (picks 1))) s.1))

product : (a b : ℤ) → int_le (pos 0) a ≡ true → int_le (pos 0) b ≡ true → int_le (pos 0) (a *ℤ b) ≡ true
product (pos m) (pos n) h k = grind (arith, ints)
product (pos m) (negsuc n) h k = absurd (cc)
product (negsuc m) b h k = absurd (cc)

pub true-o14 : IsTrueRow o14
true-o14 picks = by_truth (built o14 picks) refl (λ find e c l r s. product (number_in (value find e (picks 0))) (number_in (value find e (picks 1))) s.1 s.2.1)

pub true-o15 : IsTrueRow o15
true-o15 picks = by_truth (built o15 picks) refl (λ find e c l r s.
    let x = number_in (value find e (picks 0)) in let z = number_in (value find e (picks 1)) in let y = number_in (value find e (picks 2)) in
    le-if (x *ℤ z) (y *ℤ z) (product-most x y z (le-then x y s.1) (le-then (pos 0) z s.2.1)))
