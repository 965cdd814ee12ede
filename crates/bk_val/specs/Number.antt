-- What an operator on whole numbers gives, without bound, and 0 outside its domain.
-- Source: B Language Reference Manual.
use Rattle.std.specs.Prelude.{zero, ℤ, pos, negsuc, ◌%◌, ◌+ℤ◌, ◌-ℤ◌, ◌*ℤ◌, int_div}
use Rattle.std.specs.Int.{int_pow}
use Rattle.bk_val.specs.declared.arithmetic.NumOp.{NumOp}
use Rattle.bk_val.specs.declared.arithmetic.NumOp.TheVariants.{Add, Sub, Mul, Div, Mod, Power}

-- the quotient, rounded toward zero; its domain is a divisor other than 0
abbrev pub quotient_of : ℤ → ℤ → ℤ
quotient_of a (pos zero) = pos 0
quotient_of a b = int_div a b

-- the remainder; its domain is 0 <= a and 0 < b
abbrev pub remainder_of : ℤ → ℤ → ℤ
remainder_of (pos a) (pos zero) = pos 0
remainder_of (pos a) (pos b) = pos (a % b)
remainder_of _ _ = pos 0

-- the power; its domain is an exponent that is not negative, and the power to 0 is 1
abbrev pub power_of : ℤ → ℤ → ℤ
power_of a (pos n) = int_pow a n
power_of a (negsuc n) = pos 0

-- what each operator gives
abbrev pub number_of : NumOp → ℤ → ℤ → ℤ
number_of Add a b = a +ℤ b
number_of Sub a b = a -ℤ b
number_of Mul a b = a *ℤ b
number_of Div a b = quotient_of a b
number_of Mod a b = remainder_of a b
number_of Power a b = power_of a b
