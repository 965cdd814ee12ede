-- Which high powers fit 128 bits.
use Rattle.std.proofs.Common.{◌≡◌, ℕ, zero, suc, ◌+◌, ◌*◌, not, sym, ap, ◌^◌, ◌%◌, ◌<◌, ◌≤◌, Bool, true, false, cond, ◌⊎◌, inl, inr, refl, arith, add-one, FitsSigned, ℤ, pos, ◌≤ℤ◌, ◌<ℤ◌, of_z}
use lib.IntN.{negsuc, neg_ℤ, ◌*ℤ◌, pos-*ℤ-pos, pos-*ℤ-negsuc, negsuc-*ℤ-negsuc}
use Rattle.std.proofs.lemmas.Bool.Decides.{nat_tests}
use Rattle.std.proofs.lemmas.Int.{ints}
use Rattle.std.proofs.lemmas.Grind.{pow_more}
use Rattle.std.proofs.Math.Nat.{pow-zero}
use Rattle.std.proofs.lemmas.Bool.{eq-eqb, ne_eqb}
use Rattle.std.proofs.Math.Nat.{pow-le-pow_left, pow-le-pow_right}
use Rattle.std.specs.Prelude.{◌==◌, int_rem}
use Rattle.std.specs.Int.{w128}
use Rattle.bk_val.specs.Number.{power_of}

one_pow : (k : ℕ) → 1 ^ k ≡ 1
one_pow zero = refl
one_pow (suc k) = rw (← (add-one k), pow_more 1 k, one_pow k)

zero_pow : (k : ℕ) → 0 < k → 0 ^ k ≡ 0
zero_pow zero h = absurd (omega arith)
zero_pow (suc k) h = rw (← (add-one k), pow_more 0 k) (omega arith)

high : (m n : ℕ) → 2 ≤ m → 256 ≤ n → 2 ^ 256 ≤ m ^ n
high m n h k =
    let base = pow-le-pow_left h 256 in
    let positive : 0 < m = omega arith in
    let exponent = pow-le-pow_right positive k in
    omega (arith, base, exponent)

either_sign : (b : Bool) (k : ℕ) → 2 ^ 256 ≤ k → FitsSigned w128 (cond b (pos k) (neg_ℤ (pos k))) → ⊥
either_sign true k h f = omega (arith, f.sfits)
either_sign false zero h f = omega arith
either_sign false (suc k) h f = omega (arith, f.sfits)

pub wide_power : (a b : ℤ) → pos 256 ≤ℤ b → (a <ℤ negsuc 0) ⊎ (pos 1 <ℤ a) → FitsSigned w128 (power_of a b) → ⊥
wide_power (pos m) (pos n) h (inl p) f = omega (arith, ints)
wide_power (pos m) (pos n) h (inr p) f = omega (arith, f.sfits, high m n (omega (arith, ints)) (omega (arith, ints)))
wide_power (negsuc m) (pos n) h (inl p) f = either_sign (n % 2 == 0) (suc m ^ n) (high (suc m) n (omega (arith, ints)) (omega (arith, ints))) f
wide_power (negsuc m) (pos n) h (inr p) f = omega (arith, ints)
wide_power a (negsuc n) h p f = omega (arith, ints)

pub even_power : (a b : ℤ) → pos 256 ≤ℤ b → a ≡ negsuc 0 → of_z w128 (int_rem b (pos 2)) ≡ 0 → pos 1 ≡ power_of a b
even_power a (pos n) h e r = rw (e, one_pow n, eq-eqb (n % 2) 0 r)
even_power a (negsuc n) h e r = absurd (omega (arith, ints))

pub odd_power : (a b : ℤ) → pos 256 ≤ℤ b → a ≡ negsuc 0 → (of_z w128 (int_rem b (pos 2)) ≡ 0 → ⊥) → a ≡ power_of a b
odd_power a (pos n) h e r = rw (e, one_pow n, ne_eqb (n % 2) 0 r)
odd_power a (negsuc n) h e r = absurd (omega (arith, ints))

pub low_power : (a b : ℤ) → pos 256 ≤ℤ b → pos 0 ≤ℤ a → a ≤ℤ pos 1 → a ≡ power_of a b
low_power (pos zero) (pos n) h p q = rw (zero_pow n (omega (arith, ints)))
low_power (pos (suc m)) (pos n) h p q = let e : m ≡ 0 = omega (arith, ints) in rw (e, one_pow n)
low_power (negsuc m) b h p q = absurd (omega (arith, ints))
low_power (pos m) (negsuc n) h p q = absurd (omega (arith, ints))

-- ---- powers by their factors
pub power_of-zero : (a : ℤ) → power_of a (pos 0) ≡ pos 1
power_of-zero (pos a) = ap pos (pow-zero a)
power_of-zero (negsuc a) = ap pos (pow-zero (suc a))

pub power_of-negative : (a b : ℤ) → b <ℤ pos 0 → power_of a b ≡ pos 0
power_of-negative a (pos n) h = absurd (omega (arith, ints))
power_of-negative a (negsuc n) h = refl

neg_times : (y a : ℕ) → pos (y * suc a) ≡ neg_ℤ (pos y) *ℤ negsuc a
neg_times zero a = let e : 0 * suc a ≡ 0 = omega arith in rw e
neg_times (suc y) a = sym (negsuc-*ℤ-negsuc y a)

at_parity : (b c : Bool) (y a : ℕ) → c ≡ not b → cond c (pos (y * suc a)) (neg_ℤ (pos (y * suc a))) ≡ cond b (pos y) (neg_ℤ (pos y)) *ℤ negsuc a
at_parity true c y a e = rw e (sym (pos-*ℤ-negsuc y a))
at_parity false c y a e = rw e (neg_times y a)

next_parity : (n : ℕ) → ((n + 1) % 2 == 0) ≡ not (n % 2 == 0)
next_parity n = grind (arith, nat_tests)

pub power_of-more : (a : ℤ) (n : ℕ) → power_of a (pos (n + 1)) ≡ power_of a (pos n) *ℤ a
power_of-more (pos a) n = rw (pow_more a n) (sym (pos-*ℤ-pos (a ^ n) a))
power_of-more (negsuc a) n = rw (pow_more (suc a) n) (at_parity (n % 2 == 0) ((n + 1) % 2 == 0) (suc a ^ n) a (next_parity n))
