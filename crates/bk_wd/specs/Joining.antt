-- Conditions put together. A condition that is btrue is left out.
use Rattle.std.specs.Prelude.{List}
use Rattle.bk_val.specs.ValueType.{ValueType}
use Rattle.bk_form.specs.Formula.{Formula, btrue, binary, for_all}
use Rattle.bk_form.specs.declared.operator.BinOp.TheVariants.{And, Imp}

-- P & Q; the other one where one of them is btrue
abbrev pub both : Formula → Formula → Formula
both btrue q = q
both p btrue = p
both p q = binary And p q

-- P => Q; btrue where Q is, and Q where P is btrue
abbrev pub where_true : Formula → Formula → Formula
where_true p btrue = btrue
where_true btrue q = q
where_true p q = binary Imp p q

-- !x.P over values of these types, and btrue where P is
abbrev pub all_over : List ValueType → Formula → Formula
all_over ts btrue = btrue
all_over ts p = for_all ts p
