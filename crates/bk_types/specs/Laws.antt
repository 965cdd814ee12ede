-- What typing is for.
-- Source: B-Book, type checking.
use Rattle.std.specs.Prelude.{◌≡◌, true}
use Rattle.bk_val.specs.ValueType.{ValueType, is_value_of}
use Rattle.bk_form.specs.Table.{set_size, IsWellFormed}
use Rattle.bk_form.specs.Formula.{Formula}
use Rattle.bk_form.specs.Search.{Finder}
use Rattle.bk_form.specs.Environment.{Environment, bound_types, IsTyped}
use Rattle.bk_form.specs.Role.{role, gives}
use Rattle.bk_form.specs.Meaning.{value}

-- a formula that types has a value of its type, in every typed environment
abbrev pub TypedHaveValues : Type 0
TypedHaveValues = (find : Finder) (e : Environment) → IsWellFormed e.table → IsTyped e → (f : Formula) (t : ValueType) →
    role e.table (bound_types e) f ≡ gives t → is_value_of (set_size e.table) t (value find e f) ≡ true
