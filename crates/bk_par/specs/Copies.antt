-- The entries that copies have in the table.
use Rattle.std.specs.Prelude.{ℕ, nat_lt, cond, List, ◌++◌, take, Option, Some}
use Rattle.std.specs.List.{slice_get, filter_map}
use Rattle.bk_val.specs.ValueType.{ValueType}
use Rattle.bk_form.specs.Table.{Table, variable_text, variable_type, with_variable}

-- the table with an entry for each copy of these variables: that of the variable, which is one of the first so many; another has none
abbrev pub with_copies : Table → ℕ → List ℕ → Table
with_copies table first xs = record table { variables = table.variables ++ filter_map (slice_get (take first table.variables)) xs }

-- the table with an entry of this name and this type after it, where both are known
abbrev pub put_behind : Table → Option (List ℕ) → Option ValueType → Table
put_behind table (Some a) (Some t) = with_variable table (record { text = a; of_type = t })
put_behind table _ _ = table

-- the same with the copy of one variable
abbrev pub with_copy : Table → ℕ → ℕ → Table
with_copy table first x = cond (nat_lt x first) (put_behind table (variable_text table x) (variable_type table x)) table
