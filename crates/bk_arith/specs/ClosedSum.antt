-- Sums of literals that have a number.
use Rattle.std.specs.Prelude.{ℤ, pos, ◌+ℤ◌, ◌-ℤ◌, ◌*ℤ◌, cond, Option, Some, None}
use Rattle.bk_val.specs.Value.{fits_i128}
use Rattle.bk_form.specs.Formula.{Formula, literal, unary, binary}
use Rattle.bk_form.specs.declared.operator.UnOp.{UnOp}
use Rattle.bk_form.specs.declared.operator.UnOp.TheVariants.{Neg}
use Rattle.bk_form.specs.declared.operator.BinOp.{BinOp}
use Rattle.bk_form.specs.declared.operator.BinOp.TheVariants.{Add, Sub, Mul}

-- the number, where it lies within 128 bits
abbrev pub if_fits : ℤ → Option ℤ
if_fits z = cond (fits_i128 z) (Some z) None

-- unary minus on a number, and on nothing else; other operators give no number
abbrev pub negative_of : UnOp → Option ℤ → Option ℤ
negative_of Neg (Some x) = if_fits (pos 0 -ℤ x)
negative_of _ _ = None

-- +, - and * on two numbers, and on nothing else; other operators give no number
abbrev pub sum_of : BinOp → Option ℤ → Option ℤ → Option ℤ
sum_of Add (Some x) (Some y) = if_fits (x +ℤ y)
sum_of Sub (Some x) (Some y) = if_fits (x -ℤ y)
sum_of Mul (Some x) (Some y) = if_fits (x *ℤ y)
sum_of _ _ _ = None

-- the value of a sum of literals by +, -, * and unary minus, each value on the way within 128 bits; none of any other formula
abbrev pub closed_sum : Formula → Option ℤ
closed_sum (literal z) = if_fits z
closed_sum (unary o a) = negative_of o (closed_sum a)
closed_sum (binary o a b) = sum_of o (closed_sum a) (closed_sum b)
closed_sum _ = None
