-- A table and a scope, with names more.
use Rattle.std.specs.Prelude.{◌≡◌, ◌<◌, ◌^◌, ◌++◌, List, length, Option}
use Rattle.bk_val.specs.ValueType.{ValueType}
use Rattle.bk_form.specs.Table.{Table}
use Rattle.bk_raw.specs.declared.script.RawTyped.{RawTyped}
use Rattle.bk_raw.specs.Meaning.ScopeReading.{ScopeNames}
use Rattle.bk_scripts.specs.Brought.{widened_by, numbered_names}

-- the names are added, with a variable for each that has a type
pub record IsWidened (typed : RawTyped →
    Option ValueType) (names : List RawTyped) (table wide : Table) (scope more : ScopeNames) : Type 0 where
  pub widens : wide ≡ widened_by typed table names
  pub adds : more ≡ record { max = scope.max; names = scope.names ++ numbered_names typed (length table.variables) names }
  pub room : length wide.variables < 2 ^ 32
