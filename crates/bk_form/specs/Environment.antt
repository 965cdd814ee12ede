-- What variables and bound numbers stand for.
use Rattle.std.specs.Prelude.{◌≡◌, ℕ, Bool, true, ◌&&◌, List, [], ◌∷◌, map, Some}
use Rattle.bk_val.specs.Value.{MathValue}
use Rattle.bk_val.specs.ValueType.{ValueType, is_value_of, base_of}
use Rattle.bk_form.specs.Table.{Table, set_size, variable_type}
use Rattle.bk_form.specs.Role.{bind}

-- a value for each variable, by its number
abbrev pub State : Type 0
State = ℕ → MathValue

-- a value with its type
abbrev pub Binding : Type 0
Binding = ValueType × MathValue

-- what a formula is read in: a state over a table, and the values of the variables bound around it
pub record Environment : Type 0 where
  -- the texts and types of the variables, and the enumerated sets
  pub table : Table
  pub state : State
  -- what the bound numbers stand for, the innermost first
  pub bound : List Binding

-- the types of the bound numbers
abbrev pub bound_types : Environment → List ValueType
bound_types e = map (λ b. b.0) e.bound

-- one value for each type
abbrev pub bindings : List ValueType → List MathValue → List Binding
bindings [] vs = []
bindings (t ∷ ts) [] = (t, base_of t) ∷ bindings ts []
bindings (t ∷ ts) (v ∷ vs) = (t, v) ∷ bindings ts vs

-- the environment under a binder of these types, at these values
abbrev pub under : Environment → List ValueType → List MathValue → Environment
under e ts vs = record e { bound = bind (bindings ts vs) e.bound }

-- each bound variable has a value of its type
abbrev pub all_typed : (ℕ → ℕ) → List Binding → Bool
all_typed sizes [] = true
all_typed sizes (b ∷ bs) = is_value_of sizes b.0 b.1 && all_typed sizes bs

-- each variable of the table has a value of its type, and so has each bound number
pub record IsTyped (e : Environment) : Type 0 where
  pub variables : (n : ℕ) (t : ValueType) → variable_type e.table n ≡ Some t → is_value_of (set_size e.table) t (e.state n) ≡ true
  pub bound_numbers : all_typed (set_size e.table) e.bound ≡ true

-- what formulas see in a state, under no binder
abbrev pub at_state : Table → State → Environment
at_state table e = record { table = table; state = e; bound = [] }

-- each variable of the table has a value of its type
pub record IsTypedState (table : Table) (e : State) : Type 0 where
  pub typed : (n : ℕ) (t : ValueType) → variable_type table n ≡ Some t → is_value_of (set_size table) t (e n) ≡ true
