-- A closed sum has its number as value.
use Rattle.std.proofs.Common.{◌≡◌, ℤ, pos, ◌+ℤ◌, ◌-ℤ◌, ◌*ℤ◌, refl, ap, Bool, true, false, cond}
use Rattle.std.specs.Prelude.{Option, Some, None}
use Rattle.bk_val.specs.Value.{MathValue, int, fits_i128}
use Rattle.bk_form.specs.Formula.{literal, unary, binary}
use Rattle.bk_form.specs.Meaning.{value, truth, meaning, type_in}
use Rattle.bk_form.specs.Role.{binary_role}
use Rattle.bk_val.specs.ValueType.{base_of}
use Rattle.bk_form.specs.Operators.{unary_value, binary_value}
use Rattle.bk_form.specs.declared.operator.UnOp.{UnOp}
use Rattle.bk_form.specs.declared.operator.UnOp.TheVariants.{Neg}
use Rattle.bk_form.specs.declared.operator.BinOp.{BinOp}
use Rattle.bk_form.specs.declared.operator.BinOp.TheVariants.{Add, Sub, Mul}
use Rattle.bk_arith.specs.ClosedSum.{if_fits, negative_of, sum_of, closed_sum}
use Rattle.bk_arith.specs.Laws.{ClosedSumsAreNumbers}

some-if : (b : Bool) (y z : ℤ) → cond b (Some y) None ≡ Some z → y ≡ z
some-if true y z h = cc
some-if false y z h = absurd (cc)

fits-then : (y z : ℤ) → if_fits y ≡ Some z → int y ≡ int z
fits-then y z h = ap int (some-if (fits_i128 y) y z h)

negative-value : (o : UnOp) (r : Option ℤ) (v : MathValue) (b : Bool) (z : ℤ) → ((x : ℤ) → r ≡ Some x → v ≡ int x) → negative_of o r ≡ Some z → unary_value o v b ≡ int z
negative-value Neg (Some x) v b z f h = rw (f x refl) (fits-then (pos 0 -ℤ x) z h)
negative-value _ _ v b z f h = absurd (cc)

sum-value : (o : BinOp) (r s : Option ℤ) (base v w : MathValue) (z : ℤ) → ((x : ℤ) → r ≡ Some x → v ≡ int x) → ((y : ℤ) → s ≡ Some y → w ≡ int y) → sum_of o r s ≡ Some z → binary_value o base v w ≡ int z
sum-value Add (Some x) (Some y) base v w z f g h = rw (f x refl, g y refl) (fits-then (x +ℤ y) z h)
sum-value Sub (Some x) (Some y) base v w z f g h = rw (f x refl, g y refl) (fits-then (x -ℤ y) z h)
sum-value Mul (Some x) (Some y) base v w z f g h = rw (f x refl, g y refl) (fits-then (x *ℤ y) z h)
sum-value _ _ _ base v w z f g h = absurd (cc)

pub closed-value : ClosedSumsAreNumbers
closed-value find e (literal y) z h = fits-then y z h
closed-value find e (unary o a) z h = negative-value o (closed_sum a) (value find e a) (truth find e a) z (closed-value find e a) h
closed-value find e (binary o a b) z h = sum-value o (closed_sum a) (closed_sum b) (base_of (type_in (binary_role o (meaning find e a).role (meaning find e b).role))) (value find e a) (value find e b) z (closed-value find e a) (closed-value find e b) h
closed-value find e _ z h = absurd (cc)
