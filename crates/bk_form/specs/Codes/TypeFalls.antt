-- The parts of a type are smaller than the type.
use Rattle.std.specs.Prelude.{◌≤◌, max}
use Rattle.std.proofs.Common.{arith}
use Rattle.bk_val.specs.ValueType.{type_size}
use Rattle.bk_form.specs.Codes.TypeView.{type_view}
use Rattle.bk_form.specs.declared.ty.TyNode.{TyNode}
use Rattle.bk_form.specs.declared.ty.TyNode.TheVariants.{Pair}
use Rattle.bk_form.specs.declared.ty.Ty.TheDeep.{deep-TyNode}

-- each part of a type is smaller than the type, so that a recursion into the parts ends
pub type_falls : (n : TyNode) → max (deep-TyNode n) 0 ≤ type_size (type_view n)
type_falls (Pair a b) = omega arith
type_falls _ = omega arith
