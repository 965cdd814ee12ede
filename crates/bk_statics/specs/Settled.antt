-- Words of the laws: when the types that are told of numbers are those of a table, and when names are those of a table and may be seen.
use Rattle.std.specs.Prelude.{◌≡◌, ◌<◌, ℕ, Bool, true, nat_lt, List, [], ◌∷◌, Some}
use Rattle.bk_val.specs.ValueType.{ValueType, enum_type}
use Rattle.bk_form.specs.Table.{Table, variable_type, lists_type, listed_size}
use Rattle.bk_raw.specs.Meaning.Names.{Names, Meaning, local, global, set_name, element_name, nothing}
use Rattle.bk_statics.specs.Typings.{Typing}

-- each number with a type is a variable of the table of this type, which the table lists
pub record IsSettled (table : Table) (typing : Typing) : Type 0 where
  pub types : (n : ℕ) (t : ValueType) → typing n ≡ Some t → variable_type table n ≡ Some t
  pub listed : (n : ℕ) (t : ValueType) → typing n ≡ Some t → lists_type table t ≡ true

-- no name is bound by a formula, and a set or an element is one of the table
abbrev pub StandsIn : Table → Meaning → Type 0
StandsIn table (local t) = ⊥
StandsIn table (global n t) = Unit {0}
StandsIn table (set_name s) = lists_type table (enum_type s) ≡ true
StandsIn table (element_name s e) = (nat_lt e (listed_size table s) ≡ true) × (lists_type table (enum_type s) ≡ true)
StandsIn table nothing = ⊥

-- so it is of each name
abbrev pub AreOf : Table → Names → Type 0
AreOf table [] = Unit {0}
AreOf table (n ∷ ns) = StandsIn table n.meaning × AreOf table ns

-- a variable may be seen
abbrev pub IsSeen : (ℕ → Bool) → Meaning → Type 0
IsSeen visible (global n t) = visible n ≡ true
IsSeen visible _ = Unit {0}

-- each variable among the names may be seen
abbrev pub AreSeen : (ℕ → Bool) → Names → Type 0
AreSeen visible [] = Unit {0}
AreSeen visible (n ∷ ns) = IsSeen visible n.meaning × AreSeen visible ns

-- what may be seen has a number below n
abbrev pub IsBelow : ℕ → (ℕ → Bool) → Type 0
IsBelow n visible = (m : ℕ) → visible m ≡ true → m < n
