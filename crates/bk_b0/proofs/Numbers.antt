-- Numbers and the values that they stand for, over any greatest number.
use Rattle.std.proofs.Common.{◌≡◌, ◌≢◌, inl, inr, ◌≤◌, ℕ, zero, suc, ◌%◌, ◌/◌, ℤ, pos, neg_ℤ, ◌-ℤ◌, ◌≤ℤ◌, int_le, refl, sym, ◌∙◌, ap, subst, Bool, true, false, not, ◌&&◌, nat_lt, arith}
use Rattle.std.specs.Prelude.{int_lt, negsuc, nat_abs, int_div, Ok}
use Rattle.std.specs.Ordering.{int_eq}
use Rattle.std.proofs.lemmas.Int.{ints}
use Rattle.std.proofs.lemmas.Bool.Decides.{nat_tests}
use Rattle.bk_val.specs.Value.{int, bool}
use Rattle.bk_val.specs.ValueType.{ValueType, int_type, bool_type, enum_type, pair_type, set_type, is_value_of}
use Rattle.bk_val.specs.Number.{quotient_of, remainder_of}
use Rattle.bk_val.specs.CmpLaws.{same_value, value_eq-self}
use Rattle.bk_val.proofs.Quotients.{quotient-magnitude}
use Rattle.bk_form.specs.Table.{set_size}
use Rattle.bk_form.specs.Operators.{is_equal}
use Rattle.bk_form.specs.Defined.{is_in_int}
use Rattle.bk_form.proofs.Members.{and-both, and-true, or-cases, both_ways}
use Rattle.bk_code.specs.Numbers.{is_within, bounded, quotient, remainder, truth_number, int_max as code_max}
use Rattle.bk_dev.specs.Development.{Development, int_max, IsRange}
use Rattle.bk_b0.specs.Kinds.{number_as, as_number, is_of_kind}
use Rattle.bk_b0.specs.Translation.{translation}

-- ---- the range
pub le-then : (x y : ℤ) → int_le x y ≡ true → x ≤ℤ y
le-then x y h = grind (arith, ints)

pub le-if : (x y : ℤ) → x ≤ℤ y → int_le x y ≡ true
le-if x y h = grind (arith, ints)

pub eq-then : (x y : ℤ) → int_eq x y ≡ true → x ≡ y
eq-then x y h = grind (arith, ints)

pub eq-if : (x y : ℤ) → x ≡ y → int_eq x y ≡ true
eq-if x y h = grind (arith, ints)

pub eq-not : (x y : ℤ) → int_eq x y ≡ false → x ≢ y
eq-not x y h k = let t = eq-if x y k in let e : true ≡ false = sym t ∙ h in absurd (cc)

pub negation : (z : ℤ) → neg_ℤ z ≡ pos 0 -ℤ z
negation z = omega (arith, ints)

pub bounded-is : (max z : ℤ) → is_in_int max z ≡ true → bounded max z ≡ Ok z
bounded-is max z h = let k : is_within max z ≡ true = ap (λ n. int_le n z && int_le z max) (negation max) ∙ h in rw k refl

pub bounds-then : (max z : ℤ) → is_in_int max z ≡ true → ((pos 0 -ℤ max) ≤ℤ z) × (z ≤ℤ max)
bounds-then max z h = let w = and-both (int_le (pos 0 -ℤ max) z) (int_le z max) h in (le-then (pos 0 -ℤ max) z w.0, le-then z max w.1)

pub bounds-if : (max z : ℤ) → (pos 0 -ℤ max) ≤ℤ z → z ≤ℤ max → is_in_int max z ≡ true
bounds-if max z h k = and-true (int_le (pos 0 -ℤ max) z) (int_le z max) (le-if (pos 0 -ℤ max) z h) (le-if z max k)

-- ---- the greatest number: that it is not negative, and one for a development and its code
greatest-natural : (dev : Development) → IsRange (int_max dev) → pos 0 ≤ℤ int_max dev
greatest-natural dev range = let one : pos 1 ≤ℤ int_max dev = range.least in omega (arith, ints, one)

pub translated-greatest : (dev : Development) → code_max (translation dev) ≡ int_max dev
translated-greatest dev = refl

zero-within : (max : ℤ) → pos 0 ≤ℤ max → is_in_int max (pos 0) ≡ true
zero-within max h = bounds-if max (pos 0) (omega (arith, ints)) h

pub zero-in : (dev : Development) → IsRange (int_max dev) → is_in_int (int_max dev) (pos 0) ≡ true
zero-in dev range = zero-within (int_max dev) (greatest-natural dev range)

pub negated-in : (max z : ℤ) → is_in_int max z ≡ true → is_in_int max (pos 0 -ℤ z) ≡ true
negated-in max z h =
    let w = bounds-then max z h in
    let low : (pos 0 -ℤ max) ≤ℤ z = w.0 in
    let high : z ≤ℤ max = w.1 in
    bounds-if max (pos 0 -ℤ z) (omega (arith, ints)) (omega (arith, ints))

pub negated-is : (max z : ℤ) → is_in_int max z ≡ true → bounded max (neg_ℤ z) ≡ Ok (pos 0 -ℤ z)
negated-is max z h = ap (bounded max) (negation z) ∙ bounded-is max (pos 0 -ℤ z) (negated-in max z h)

-- ---- quotients and remainders
divided-below : (a b : ℕ) → a / b ≤ a
divided-below a zero = omega arith
divided-below a (suc b) = omega arith

abs-then : (max z : ℤ) → is_in_int max z ≡ true → pos (nat_abs z) ≤ℤ max
abs-then max (pos n) h = (bounds-then max (pos n) h).1
abs-then max (negsuc n) h = let k = (bounds-then max (negsuc n) h).0 in omega (arith, ints)

abs-if : (max z : ℤ) → pos (nat_abs z) ≤ℤ max → is_in_int max z ≡ true
abs-if max (pos n) h = bounds-if max (pos n) (omega (arith, ints)) h
abs-if max (negsuc n) h = bounds-if max (negsuc n) (omega (arith, ints)) (omega (arith, ints))

pub quotient-in : (max a b : ℤ) → b ≢ pos 0 → is_in_int max a ≡ true → is_in_int max (quotient_of a b) ≡ true
quotient-in max a b n h =
    let size : nat_abs (quotient_of a b) ≡ nat_abs a / nat_abs b = quotient-magnitude a b n in
    let small : nat_abs a / nat_abs b ≤ nat_abs a = divided-below (nat_abs a) (nat_abs b) in
    let top : pos (nat_abs a) ≤ℤ max = abs-then max a h in
    let less : nat_abs (quotient_of a b) ≤ nat_abs a = omega (arith, size, small) in
    abs-if max (quotient_of a b) (omega (arith, ints, less, top))

int_div-is : (a b : ℤ) → b ≢ pos 0 → int_div a b ≡ quotient_of a b
int_div-is a (pos zero) n = absurd (n refl)
int_div-is a (pos (suc b)) n = refl
int_div-is a (negsuc b) n = refl

not-then : (b : Bool) → not b ≡ true → b ≡ false
not-then true h = absurd (cc)
not-then false h = refl

pub divisor : (b : ℤ) → not (is_equal (int b) (int (pos 0))) ≡ true → int_eq b (pos 0) ≡ false
divisor b h = not-then (int_eq b (pos 0)) h

pub quotient-is : (a b : ℤ) → int_eq b (pos 0) ≡ false → quotient a b ≡ Ok (quotient_of a b)
quotient-is a b h = rw h (ap Ok (int_div-is a b (eq-not b (pos 0) h)))

pub remainder-is : (a b : ℤ) → int_le (pos 0) a && int_lt (pos 0) b ≡ true → remainder a b ≡ Ok (remainder_of a b)
remainder-is (pos a) (pos zero) h = let k = (and-both (int_le (pos 0) (pos a)) (int_lt (pos 0) (pos zero)) h).1 in absurd (grind (arith, ints))
remainder-is (pos a) (pos (suc b)) h =
    let low : int_le (pos 0) (pos a) ≡ true = le-if (pos 0) (pos a) (omega (arith, ints)) in
    let high : int_le (pos 1) (pos (suc b)) ≡ true = le-if (pos 1) (pos (suc b)) (omega (arith, ints)) in
    rw (low, high) refl
remainder-is (pos a) (negsuc b) h = let k = (and-both (int_le (pos 0) (pos a)) (int_lt (pos 0) (negsuc b)) h).1 in absurd (grind (arith, ints))
remainder-is (negsuc a) b h = let k = (and-both (int_le (pos 0) (negsuc a)) (int_lt (pos 0) b) h).0 in absurd (grind (arith, ints))

rest-below : (a b : ℕ) → a % b ≤ a
rest-below a zero = omega arith
rest-below a (suc b) = omega arith

pub remainder-in : (max a b : ℤ) → is_in_int max a ≡ true → pos 0 ≤ℤ a → is_in_int max (remainder_of a b) ≡ true
remainder-in max (pos a) (pos zero) h p = let k = (bounds-then max (pos a) h).1 in bounds-if max (pos 0) (omega (arith, ints)) (omega (arith, ints))
remainder-in max (pos a) (pos (suc b)) h p = let k = (bounds-then max (pos a) h).1 in let l = rest-below a (suc b) in bounds-if max (pos (a % suc b)) (omega (arith, ints)) (omega (arith, ints))
remainder-in max (pos a) (negsuc b) h p = let k = (bounds-then max (pos a) h).1 in bounds-if max (pos 0) (omega (arith, ints)) (omega (arith, ints))
remainder-in max (negsuc a) b h p = absurd (omega (arith, ints))

-- ---- kinds
pub number-back : (dev : Development) (t : ValueType) (z : ℤ) → is_of_kind dev t z ≡ true → as_number (number_as t z) ≡ z
number-back dev int_type z h = refl
number-back dev bool_type z h = by_test (int_eq z (pos 0)) refl
  where
    one : int_eq z (pos 0) ≡ false → pos 1 ≡ z
    one k = elim (or-cases (int_eq z (pos 0)) (int_eq z (pos 1)) h) [
      | inl l ↦ let e : true ≡ false = sym l ∙ k in absurd (cc)
      | inr l ↦ sym (eq-then z (pos 1) l)
    ]

    by_test : (b : Bool) → int_eq z (pos 0) ≡ b → as_number (bool (not b)) ≡ z
    by_test true k = sym (eq-then z (pos 0) k)
    by_test false k = one k
number-back dev (enum_type s) (pos i) h = refl
number-back dev (enum_type s) (negsuc i) h = absurd (cc)
number-back dev (pair_type t u) z h = absurd (cc)
number-back dev (set_type t) z h = absurd (cc)

pub same-numbers : (dev : Development) (t : ValueType) (z w : ℤ) → is_of_kind dev t z ≡ true → is_of_kind dev t w ≡ true → is_equal (number_as t z) (number_as t w) ≡ int_eq z w
same-numbers dev t z w h k = both_ways (is_equal (number_as t z) (number_as t w)) (int_eq z w)
    (λ e. eq-if z w (sym (number-back dev t z h) ∙ ap as_number (same_value (number_as t z) (number_as t w) e) ∙ number-back dev t w k))
    (λ e. subst (λ n. is_equal (number_as t z) (number_as t n) ≡ true) (eq-then z w e) (value_eq-self (number_as t z)))

pub of-kind-value : (dev : Development) (t : ValueType) (z : ℤ) → is_of_kind dev t z ≡ true → is_value_of (set_size dev.table) t (number_as t z) ≡ true
of-kind-value dev int_type z h = refl
of-kind-value dev bool_type z h = refl
of-kind-value dev (enum_type s) (pos i) h = and-true _ (nat_lt i (set_size dev.table s)) (grind (arith, nat_tests)) h
of-kind-value dev (enum_type s) (negsuc i) h = absurd (cc)
of-kind-value dev (pair_type t u) z h = absurd (cc)
of-kind-value dev (set_type t) z h = absurd (cc)

pub truth-as : (b : Bool) → bool b ≡ number_as bool_type (truth_number b)
truth-as true = refl
truth-as false = refl

pub truth-kind : (dev : Development) (b : Bool) → is_of_kind dev bool_type (truth_number b) ≡ true
truth-kind dev true = refl
truth-kind dev false = refl

pub truth-zero : (b : Bool) → int_eq (truth_number b) (pos 0) ≡ not b
truth-zero true = refl
truth-zero false = refl
