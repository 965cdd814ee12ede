-- Each operator's token is read as that operator.
use Rattle.std.specs.Prelude.{◌≡◌, Some, refl}
use Rattle.bk_raw.specs.Trees.Operators.{infix_kind}
use Rattle.bk_raw.specs.declared.operator.InfixOp.{InfixOp}
use Rattle.bk_raw.specs.declared.operator.InfixOp.TheVariants.{And}
use Rattle.bk_raw.specs.Grammar.Reading.{infix_of}

pub infix_of-kind : (o : InfixOp) → infix_of (infix_kind o) ≡ Some o
infix_of-kind And = refl
infix_of-kind _ = refl
