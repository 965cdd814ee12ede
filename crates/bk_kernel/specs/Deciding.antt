-- Closed comparisons and memberships, and whether they are true.
use Rattle.std.specs.Prelude.{nat_eq, ℤ, pos, int_lt, int_le, Bool, true, false, not, ◌&&◌, cond, Option, Some, None}
use Rattle.std.specs.Ordering.{int_eq}
use Rattle.bk_form.specs.Formula.{Formula, truth_value, element, named, btrue, bfalse, binary}
use Rattle.bk_form.specs.declared.operator.BinOp.{BinOp}
use Rattle.bk_form.specs.declared.operator.BinOp.TheVariants.{Eq, Lt, Le, In, Range}
use Rattle.bk_form.specs.declared.operator.Domain.TheVariants.{Natural, Natural1}
use Rattle.bk_arith.specs.ClosedSum.{closed_sum}

-- the test of two numbers, where both are there
abbrev pub compared : (ℤ → ℤ → Bool) → Option ℤ → Option ℤ → Option Bool
compared test (Some x) (Some y) = Some (test x y)
compared test _ _ = None

-- whether both are true, where both are known
abbrev pub both_true : Option Bool → Option Bool → Option Bool
both_true (Some p) (Some q) = Some (p && q)
both_true _ _ = None

-- whether a closed sum is in NATURAL, NATURAL1 or an interval of closed sums
abbrev pub decided_in : Option ℤ → Formula → Option Bool
decided_in z (named Natural) = compared int_le (Some (pos 0)) z
decided_in z (named Natural1) = compared int_le (Some (pos 1)) z
decided_in z (binary Range a b) = both_true (compared int_le (closed_sum a) z) (compared int_le z (closed_sum b))
decided_in z _ = None

-- whether a closed comparison or membership is true
abbrev pub decided_by : BinOp → Formula → Formula → Option Bool
decided_by Eq a b = compared int_eq (closed_sum a) (closed_sum b)
decided_by Lt a b = compared int_lt (closed_sum a) (closed_sum b)
decided_by Le a b = compared int_le (closed_sum a) (closed_sum b)
decided_by In a b = decided_in (closed_sum a) b
decided_by _ a b = None

-- the same of a formula; none where it is no closed comparison or membership
abbrev pub decided : Formula → Option Bool
decided (binary o a b) = decided_by o a b
decided _ = None

-- whether two elements, or two truth values, are equal
abbrev pub equal_constants : Formula → Formula → Option Bool
equal_constants (truth_value p) (truth_value q) = Some (cond p q (not q))
equal_constants (element s i) (element r j) = Some (nat_eq s r && nat_eq i j)
equal_constants _ _ = None

-- the formula of a truth
abbrev pub constant : Bool → Formula
constant true = btrue
constant false = bfalse

-- it is known, and true
abbrev pub is_yes : Option Bool → Bool
is_yes (Some b) = b
is_yes None = false
