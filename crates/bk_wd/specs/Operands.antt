-- What is asked of the sides of an operator on two formulas, and conditions that several operators ask.
-- Source: B-Book.
use Rattle.std.specs.Prelude.{pos}
use Rattle.bk_form.specs.Formula.{Formula, literal, unary, binary}
use Rattle.bk_form.specs.declared.operator.UnOp.TheVariants.{Not}
use Rattle.bk_form.specs.declared.operator.BinOp.{BinOp}
use Rattle.bk_form.specs.declared.operator.BinOp.TheVariants.{And, Or, Imp, Eq, Lt, Le}
use Rattle.bk_wd.specs.Joining.{both, where_true}

-- when the right side of an operator is met, from left to right: always, only where the left side is true, or only where it is false
pub data WhenMet : Type 0 where
  always_met : WhenMet
  met_where_true : WhenMet
  met_where_false : WhenMet

-- the right side of P & Q and P => Q where P is true, that of P or Q where P is false, and that of every other operator always
abbrev pub right_met : BinOp → WhenMet
right_met And = met_where_true
right_met Imp = met_where_true
right_met Or = met_where_false
right_met _ = always_met

-- p, which the left side a is asked, and then q, which the right side is asked, where that is met
abbrev pub sides_asked : WhenMet → Formula → Formula → Formula → Formula
sides_asked always_met a p q = both p q
sides_asked met_where_true a p q = both p (where_true a q)
sides_asked met_where_false a p q = both p (where_true (unary Not a) q)

-- not(b = 0), which a / b asks
abbrev pub not_zero : Formula → Formula
not_zero b = unary Not (binary Eq b (literal (pos 0)))

-- 0 <= a & 0 < b, which a mod b asks
abbrev pub has_remainder : Formula → Formula → Formula
has_remainder a b = binary And (binary Le (literal (pos 0)) a) (binary Lt (literal (pos 0)) b)
