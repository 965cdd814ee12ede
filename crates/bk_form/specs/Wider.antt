-- A table that begins with another: the same sets and variables by the same numbers, and perhaps more after them.
use Rattle.std.specs.Prelude.{◌≡◌, List, ◌++◌}
use Rattle.bk_form.specs.Table.{Table, SetEntry, VariableEntry}
use Rattle.bk_form.specs.Role.{Role, untyped}

-- the large table has what the small one has, in the same places
pub record IsWider (small large : Table) : Type 0 where
  pub sets : (more : List SetEntry) × (large.sets ≡ small.sets ++ more)
  pub variables : (more : List VariableEntry) × (large.variables ≡ small.variables ++ more)

-- the formula types: its role is a value, a domain or a predicate
abbrev pub IsTypedRole : Role → Type 0
IsTypedRole untyped = ⊥
IsTypedRole _ = Unit {0}
