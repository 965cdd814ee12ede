-- The mathematical type that a view of a type shows.
use Rattle.bk_val.specs.ValueType.{ValueType, int_type, bool_type, enum_type, pair_type, set_type}
use Rattle.bk_form.specs.declared.ty.TyView.{TyView}
use Rattle.bk_form.specs.declared.ty.TyView.TheVariants.{Int, Bool, Enum, Pair, Set}

-- the type that is seen as this
abbrev pub shown_type : TyView → ValueType
shown_type Int = int_type
shown_type Bool = bool_type
shown_type (Enum n) = enum_type n
shown_type (Pair a b) = pair_type a.now b.now
shown_type (Set a) = set_type a.now
