-- What is kept of a round: the types that one predicate gives to a group of names.
use Rattle.std.specs.Prelude.{◌≡◌, ℕ, ℤ, List, Option, None, Some, slice_get}
use Rattle.bk_val.specs.ValueType.{ValueType}
use Rattle.bk_elab_terms.specs.Visible.{told_at}
use Rattle.bk_statics.specs.Typings.{Typing}
use Rattle.bk_statics.specs.Ways.{given_by}
use Rattle.bk_scope.specs.declared.way.Group.{Group}
use Rattle.bk_scope.specs.Shown.{group_way}
use Rattle.bk_infer.specs.declared.settled.Told.{Told}

-- these are the types of the group's names
abbrev pub AreTold : ℤ → Typing → Group → List (Option ValueType) → Type 0
AreTold int_max typing g ts = (i : ℕ) → told_at (slice_get ts i) ≡ given_by int_max typing (group_way g i)

-- what is kept of a group, if there is something
abbrev pub IsKept : ℤ → Typing → Option Told → Type 0
IsKept int_max typing None = Unit {0}
IsKept int_max typing (Some t) = AreTold int_max typing t.group.now t.types.items
