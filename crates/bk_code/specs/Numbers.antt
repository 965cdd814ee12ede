-- The whole numbers that the machine computes with.
use Rattle.std.specs.Prelude.{ℤ, pos, neg_ℤ, ◌≤ℤ◌, Bool, ◌&&◌, int_le, Result, Ok, Err, if◌then◌else◌, int_div, int_rem}
use Rattle.std.specs.Ordering.{int_eq}
use Rattle.bk_limits.specs.declared.TheConstants.{MAXINT, GREATEST_MAXINT}
use Rattle.bk_code.specs.declared.image.Image.{Image}
use Rattle.bk_code.specs.declared.instruction.Trap.{Trap}
use Rattle.bk_code.specs.declared.instruction.Trap.TheVariants.{Overflow, DivZero, ModRange}

-- MAXINT, the greatest number of an image; the least is its negation
abbrev pub int_max : Image → ℤ
int_max image = image.max

-- MAXINT where no range is said
abbrev pub default_max : ℤ
default_max = MAXINT

-- MAXINT may be each number from 1, since TRUE is 1, to the greatest with which a sum of two numbers of the range fits 64 bits
pub record IsRange (max : ℤ) : Type 0 where
  pub least : pos 1 ≤ℤ max
  pub greatest : max ≤ℤ GREATEST_MAXINT

-- the number lies in the range -max .. max
abbrev pub IsWithin : ℤ → ℤ → Type 0
IsWithin max n = (neg_ℤ max ≤ℤ n) × (n ≤ℤ max)

-- whether it does
abbrev pub is_within : ℤ → ℤ → Bool
is_within max n = int_le (neg_ℤ max) n && int_le n max

-- a sum, a difference, a product or a negation: it overflows outside the range
abbrev pub bounded : ℤ → ℤ → Result ℤ Trap
bounded max n = if is_within max n then Ok n else Err Overflow

-- the quotient, rounded toward zero
abbrev pub quotient : ℤ → ℤ → Result ℤ Trap
quotient a b = if int_eq b (pos 0) then Err DivZero else Ok (int_div a b)

-- the remainder, of a number from 0 by a number from 1
abbrev pub remainder : ℤ → ℤ → Result ℤ Trap
remainder a b = if int_le (pos 0) a && int_le (pos 1) b then Ok (int_rem a b) else Err ModRange

-- the number that stands for a truth value
abbrev pub truth_number : Bool → ℤ
truth_number b = if b then pos 1 else pos 0
