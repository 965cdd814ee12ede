-- States: a value for each variable, by its number.
use Rattle.std.specs.Prelude.{◌≡◌, ℕ, nat_eq, Bool, true, false, ◌||◌, cond, List, [], ◌∷◌, map, unwrap_or}
use Rattle.bk_val.specs.Value.{MathValue}
use Rattle.bk_val.specs.ValueType.{ValueType, bool_type, are_of_types}
use Rattle.bk_form.specs.Table.{Table, set_size, variable_type}
use Rattle.bk_form.specs.Formula.{Formula}
use Rattle.bk_form.specs.Search.{Finder}
use Rattle.bk_form.specs.Environment.{State, at_state}
use Rattle.bk_form.specs.Meaning.{value, truth}

-- whether a predicate is true in a state
abbrev pub holds : Finder → Table → State → Formula → Bool
holds find table e p = truth find (at_state table e) p

-- the value of an expression in a state
abbrev pub value_at : Finder → Table → State → Formula → MathValue
value_at find table e f = value find (at_state table e) f

-- the type of a variable; that of one which the table does not list does not matter
abbrev pub declared_type : Table → ℕ → ValueType
declared_type table n = unwrap_or (variable_type table n) bool_type

-- one value of its type for each of the variables
abbrev pub are_values_for : Table → List ℕ → List MathValue → Bool
are_values_for table zs vs = are_of_types (set_size table) (map (declared_type table) zs) vs

-- the state in which z has the value v, and every other variable what it had
abbrev pub with_value : State → ℕ → MathValue → State
with_value e z v n = cond (nat_eq n z) v (e n)

-- the state with these values for these variables
abbrev pub with_values : State → List ℕ → List MathValue → State
with_values e [] vs = e
with_values e (z ∷ zs) [] = e
with_values e (z ∷ zs) (v ∷ vs) = with_values (with_value e z v) zs vs

-- whether the number is in the list
abbrev pub among : List ℕ → ℕ → Bool
among [] n = false
among (z ∷ zs) n = nat_eq n z || among zs n

-- d where the test passes, and e elsewhere
abbrev pub over : (ℕ → Bool) → State → State → State
over at d e n = cond (at n) (d n) (e n)

-- these variables have the same values in the two states
abbrev pub AgreeOn : List ℕ → State → State → Type 0
AgreeOn zs d e = (n : ℕ) → among zs n ≡ true → d n ≡ e n

-- the first of each pair: the variables to which an assignment gives terms, or those that x :(P) changes
abbrev pub firsts : {A : Type 0} → List (ℕ × A) → List ℕ
firsts [] = []
firsts (p ∷ ps) = p.0 ∷ firsts ps
