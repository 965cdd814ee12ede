-- What the names of ways are, and when all types that are told are listed.
use Rattle.std.specs.Prelude.{◌≡◌, ◌<◌, ◌≤◌, ℕ, ℤ, ◌+◌, true, List, [], ◌∷◌, length, Some}
use Rattle.bk_val.specs.ValueType.{ValueType}
use Rattle.bk_form.specs.Table.{Table, variable_type, lists_type, IsWellFormed}
use Rattle.bk_dev.specs.Development.{Development}
use Rattle.bk_statics.specs.Components.{Component}
use Rattle.bk_statics.specs.Typings.{Typing}
use Rattle.bk_statics.specs.Ways.{Way, no_way, by_term, by_domain, by_conjuncts, same_as, settled}
use Rattle.bk_statics.specs.Plan.{plan}
use Rattle.bk_statics.specs.LevelOf.{types_at, table_of}
use Rattle.bk_statics.specs.Settled.{AreOf, IsSettled}

-- its names' sets and elements are those of the table
abbrev pub IsWayOf : Table → Way → Type 0
IsWayOf table no_way = Unit {0}
IsWayOf table (by_term names e) = AreOf table names
IsWayOf table (by_domain names e) = AreOf table names
IsWayOf table (by_conjuncts names xs i p) = AreOf table names
IsWayOf table (same_as m) = Unit {0}

-- so it is of each way
abbrev pub AreWaysOf : Table → List Way → Type 0
AreWaysOf table [] = Unit {0}
AreWaysOf table (w ∷ ws) = IsWayOf table w × AreWaysOf table ws

-- numbers with types are below this one, and the types have only sets of the table
pub record AreTold (table : Table) (top : ℕ) (typing : Typing) : Type 0 where
  pub listed : (n : ℕ) (t : ValueType) → typing n ≡ Some t → lists_type table t ≡ true
  pub below : (n : ℕ) (t : ValueType) → typing n ≡ Some t → n < top

-- this stays so when the types are settled
abbrev pub SettledTypesAreListed : Type 0
SettledTypesAreListed = (int_max : ℤ) (table : Table) (top n : ℕ) (ws : List Way) (typing : Typing) →
    AreWaysOf table ws → n + length ws ≤ top → AreTold table top typing → AreTold table top (settled int_max n ws typing)

-- the types of a table's variables have only its sets
abbrev pub ListsItsTypes : Table → Type 0
ListsItsTypes table = (n : ℕ) (t : ValueType) → variable_type table n ≡ Some t → lists_type table t ≡ true

-- with the component the types of the variables have only sets of the table, and the types that are told are those of the table; a
-- component's scopes have its sets and elements
pub record Stands (int_max : ℤ) (dev : Development) (c : Component) : Type 0 where
  pub settled : IsSettled (table_of int_max dev c (plan dev c)) (types_at int_max dev c (plan dev c))
  pub listed : ListsItsTypes (table_of int_max dev c (plan dev c))
  pub globals : AreOf (table_of int_max dev c (plan dev c)) (plan dev c).globals
  pub upper : AreOf (table_of int_max dev c (plan dev c)) (plan dev c).upper

-- so it is of every component, with faults or without, where the table above is well formed
abbrev pub ComponentsStand : Type 0
ComponentsStand = (int_max : ℤ) (dev : Development) (c : Component) → IsWellFormed dev.table → Stands int_max dev c
