-- What a law of formulas may take for granted of where they are read, and what they stand for there.
use Rattle.std.specs.Prelude.{◌≡◌, ◌⊎◌}
use Rattle.bk_val.specs.ValueType.{ValueType, set_type}
use Rattle.bk_form.specs.Table.{IsWellFormed}
use Rattle.bk_form.specs.Formula.{Formula}
use Rattle.bk_form.specs.Search.{Finder, IsSearch}
use Rattle.bk_form.specs.Environment.{Environment, bound_types, IsTyped}
use Rattle.bk_form.specs.Role.{Role, gives, ranges_over, predicate, role}

-- a search, and a typed environment over a well-formed table
pub record IsSetting (find : Finder) (e : Environment) : Type 0 where
  pub search : IsSearch find
  pub well : IsWellFormed e.table
  pub typed : IsTyped e

-- it is a predicate there
abbrev pub IsPredicateIn : Environment → Formula → Type 0
IsPredicateIn e f = role e.table (bound_types e) f ≡ predicate

-- it gives this type there
abbrev pub GivesIn : Environment → Formula → ValueType → Type 0
GivesIn e f t = role e.table (bound_types e) f ≡ gives t

-- a set of these elements, as a value or as another domain
abbrev pub IsOver : ValueType → Role → Type 0
IsOver t r = (r ≡ gives (set_type t)) ⊎ (r ≡ ranges_over t)

-- what ranges in it has this type
abbrev pub RangesIn : Environment → Formula → ValueType → Type 0
RangesIn e f t = IsOver t (role e.table (bound_types e) f)
