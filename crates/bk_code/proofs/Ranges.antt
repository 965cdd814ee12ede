-- Which results lie within the range.
use Rattle.std.proofs.Common.{◌≡◌, ℕ, zero, suc, ◌≤◌, ◌/◌, ◌%◌, Bool, true, false, refl, arith, ℤ, pos, ◌≤ℤ◌, Result, Ok, Err}
use Rattle.std.specs.Prelude.{◌&&◌, negsuc, neg_ℤ, int_le, int_div, int_rem, unsigned_abs, if◌then◌else◌}
use Rattle.std.specs.Ordering.{int_eq}
use Rattle.std.proofs.lemmas.Int.{ints}
use Rattle.std.proofs.Math.Nat.{div-le_self, mod-le}
use Rattle.bk_code.specs.declared.instruction.Trap.{Trap}
use Rattle.bk_code.specs.declared.instruction.Trap.TheVariants.{DivZero, ModRange}
use Rattle.bk_code.specs.Numbers.{default_max, IsRange, IsWithin, bounded, quotient, remainder, truth_number}

pub within_from_abs : (m : ℕ) (n : ℤ) → unsigned_abs n ≤ m → IsWithin (pos m) n
within_from_abs m (pos n) h = (omega (arith, ints), omega (arith, ints))
within_from_abs m (negsuc n) h = (omega (arith, ints), omega (arith, ints))

pub abs_from_within : (m : ℕ) (n : ℤ) → IsWithin (pos m) n → unsigned_abs n ≤ m
abs_from_within m (pos n) h = omega (arith, ints)
abs_from_within m (negsuc n) h = omega (arith, ints)

abs-neg : (r : ℕ) → unsigned_abs (neg_ℤ (pos r)) ≡ r
abs-neg zero = refl
abs-neg (suc r) = refl

abs-quotient : (a b : ℤ) → unsigned_abs (int_div a b) ≤ unsigned_abs a
abs-quotient (pos a) (pos b) = div-le_self a b
abs-quotient (pos a) (negsuc b) = omega (arith, abs-neg (a / suc b), div-le_self a (suc b))
abs-quotient (negsuc a) (pos b) = omega (arith, abs-neg (suc a / b), div-le_self (suc a) b)
abs-quotient (negsuc a) (negsuc b) = div-le_self (suc a) (suc b)

abs-remainder : (a b : ℤ) → unsigned_abs (int_rem a b) ≤ unsigned_abs a
abs-remainder (pos a) b = mod-le a (unsigned_abs b)
abs-remainder (negsuc a) b = omega (arith, abs-neg (suc a % unsigned_abs b), mod-le (suc a) (unsigned_abs b))

pub within-quotient : (m : ℕ) (a b : ℤ) → IsWithin (pos m) a → IsWithin (pos m) (int_div a b)
within-quotient m a b h = within_from_abs m (int_div a b) (omega (arith, abs-quotient a b, abs_from_within m a h))

pub within-remainder : (m : ℕ) (a b : ℤ) → IsWithin (pos m) a → IsWithin (pos m) (int_rem a b)
within-remainder m a b h = within_from_abs m (int_rem a b) (omega (arith, abs-remainder a b, abs_from_within m a h))

pub within-truth_number : (m : ℕ) (b : Bool) → 1 ≤ m → IsWithin (pos m) (truth_number b)
within-truth_number m true h = within_from_abs m (pos 1) h
within-truth_number m false h = within_from_abs m (pos 0) (omega arith)

-- a number of a range that ends at m or before is at most m away from 0
pub abs_within : (m : ℕ) (max n : ℤ) → max ≤ℤ pos m → IsWithin max n → unsigned_abs n ≤ m
abs_within m (pos k) n le h = omega (arith, ints, le, abs_from_within k n h)
abs_within m (negsuc k) n le h = absurd (omega (arith, ints, h.0, h.1))

-- the range where none is said is one
pub default_range : IsRange default_max
default_range = record { least = omega (arith, ints); greatest = omega (arith, ints) }

-- 0 lies within each range, and so do the numbers of the truth values
pub zero_within : (max : ℤ) → pos 1 ≤ℤ max → IsWithin max (pos 0)
zero_within (pos m) h = within_from_abs m (pos 0) (omega arith)
zero_within (negsuc m) h = absurd (omega (arith, ints, h))

pub truth_within : (max : ℤ) (b : Bool) → pos 1 ≤ℤ max → IsWithin max (truth_number b)
truth_within (pos m) b h = within-truth_number m b (omega (arith, ints, h))
truth_within (negsuc m) b h = absurd (omega (arith, ints, h))

-- the number that an operation gives, if it gives one, lies within the range
abbrev pub GivesWithin : ℤ → Result ℤ Trap → Type 0
GivesWithin max (Ok n) = IsWithin max n
GivesWithin max (Err trap) = Unit {0}

pub bounded_within : (max n : ℤ) → GivesWithin max (bounded max n)
bounded_within max n = grind (arith, ints)

pub quotient_within : (max a b : ℤ) → IsWithin max a → GivesWithin max (quotient a b)
quotient_within (pos m) a b h =
    elim (int_eq b (pos 0)) as (λ v. GivesWithin (pos m) (if v then Err DivZero else Ok (int_div a b)))
    [ true ↦ tt | false ↦ within-quotient m a b h ]
quotient_within (negsuc m) a b h = absurd (omega (arith, ints, h.0, h.1))

pub remainder_within : (max a b : ℤ) → IsWithin max a → GivesWithin max (remainder a b)
remainder_within (pos m) a b h =
    elim (int_le (pos 0) a && int_le (pos 1) b) as (λ v. GivesWithin (pos m) (if v then Ok (int_rem a b) else Err ModRange))
    [ true ↦ within-remainder m a b h | false ↦ tt ]
remainder_within (negsuc m) a b h = absurd (omega (arith, ints, h.0, h.1))
