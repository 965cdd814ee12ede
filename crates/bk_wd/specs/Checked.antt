-- Chk(E), the formula that says that an expression which is executed fits the machine: that each number that is computed is from MININT to
-- MAXINT, each array is read at one of its indices, and each divisor is inside its operator's domain.
use Rattle.std.specs.Prelude.{ℤ, pos, ◌-ℤ◌, Option, Some, None}
use Rattle.bk_form.specs.ArrayTable.{ArrayTable}
use Rattle.bk_form.specs.Formula.{Formula, literal, btrue, unary, binary, for_all, for_some}
use Rattle.bk_form.specs.Defined.{array_of}
use Rattle.bk_form.specs.declared.operator.BinOp.{BinOp}
use Rattle.bk_form.specs.declared.operator.BinOp.TheVariants.{And, Le, Add, Sub, Mul, Div, Mod, Apply}
use Rattle.bk_form.specs.declared.arrays.ArrayRow.{ArrayRow}
use Rattle.bk_form.specs.declared.arrays.ArrayDomain.{ArrayDomain}
use Rattle.bk_form.specs.declared.arrays.ArrayDomain.TheVariants.{Interval}
use Rattle.bk_wd.specs.Joining.{both, all_over}
use Rattle.bk_wd.specs.Operands.{right_met, sides_asked, not_zero, has_remainder}

-- MININT <= E & E <= MAXINT
abbrev pub in_machine : ℤ → Formula → Formula
in_machine max f = binary And (binary Le (literal (pos 0 -ℤ max)) f) (binary Le f (literal max))

-- a <= i & i <= b of the indices a..b; BOOL and an enumerated set ask nothing, since each of their values is an index
abbrev pub in_domain : ArrayDomain → Formula → Formula
in_domain (Interval low high) i = binary And (binary Le (literal low) i) (binary Le i (literal high))
in_domain _ i = btrue

-- what an array asks of the index at which it is read or written; a function that is no array asks nothing
abbrev pub index_check : Option ArrayRow → Formula → Formula
index_check (Some row) i = in_domain row.domain i
index_check None i = btrue

-- an operator's own condition: of a sum, a difference and a product that it is in the machine's range; the operators that executed
-- expressions do not have ask nothing
abbrev pub checked_own : ArrayTable → BinOp → Formula → Formula → Formula
checked_own arrays Add a b = in_machine arrays.max (binary Add a b)
checked_own arrays Sub a b = in_machine arrays.max (binary Sub a b)
checked_own arrays Mul a b = in_machine arrays.max (binary Mul a b)
checked_own arrays Div a b = not_zero b
checked_own arrays Mod a b = has_remainder a b
checked_own arrays Apply a b = index_check (array_of arrays a) b
checked_own arrays _ a b = btrue

-- Chk(E); of comprehensions and lambdas, which are never executed, nothing is asked
abbrev pub checked : ArrayTable → Formula → Formula
checked arrays (unary o a) = checked arrays a
checked arrays (binary o a b) = both (sides_asked (right_met o) a (checked arrays a) (checked arrays b)) (checked_own arrays o a b)
checked arrays (for_all ts p) = all_over ts (checked arrays p)
checked arrays (for_some ts p) = all_over ts (checked arrays p)
checked arrays _ = btrue
