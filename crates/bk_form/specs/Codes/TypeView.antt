-- The mathematical type that a node of a type stands for.
use Rattle.bk_val.specs.ValueType.{ValueType, int_type, bool_type, enum_type, pair_type, set_type}
use Rattle.bk_form.specs.declared.ty.TyNode.{TyNode}
use Rattle.bk_form.specs.declared.ty.TyNode.TheVariants.{Int, Bool, Enum, Pair, Set}

-- the type that has this node at its top
abbrev pub type_view : TyNode → ValueType
type_view Int = int_type
type_view Bool = bool_type
type_view (Enum n) = enum_type n
type_view (Pair a b) = pair_type a.value b.value
type_view (Set a) = set_type a.value
