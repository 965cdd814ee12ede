-- The names that the rules of a script bring, and what its terms are read in: a table with one more variable for each of them, and a
-- scope.
use Rattle.std.specs.Prelude.{ℕ, suc, not, Bool, cond, List, [], ◌∷◌, ◌++◌, map, length, filter, Option, Some, None}
use Rattle.std.specs.List.{filter_map, list_any}
use Rattle.std.specs.Option.{option_map}
use Rattle.std.specs.Str.{bytes_eq}
use Rattle.bk_val.specs.ValueType.{ValueType}
use Rattle.bk_form.specs.Table.{Table, VariableEntry}
use Rattle.bk_raw.specs.declared.script.RawTyped.{RawTyped}
use Rattle.bk_raw.specs.Trees.ScriptTree.{RawScript}
use Rattle.bk_raw.specs.Meaning.Printed.{type_read}
use Rattle.bk_raw.specs.Meaning.ScopeReading.{ScopeNames, names_in}
use Rattle.bk_dev.specs.Development.{Development, int_max}
use Rattle.bk_p_proof.specs.TypedNames.{script_names}
use Rattle.bk_scripts.specs.Sight.{level_of, operation_of, no_variable, outer_scope, parameter_scope}

-- ---- names
-- one name more, where none of those that there are has its text
abbrev pub with_first : List RawTyped → RawTyped → List RawTyped
with_first firsts x = cond (list_any (λ y. bytes_eq x.name.text y.name.text) firsts) firsts (firsts ++ x ∷ [])

-- the first name with each text, in order, after these
abbrev pub first_of_each : List RawTyped → List RawTyped → List RawTyped
first_of_each firsts [] = firsts
first_of_each firsts (x ∷ xs) = first_of_each (with_first firsts x) xs

-- the names that a script brings, each once
abbrev pub brought : RawScript → List RawTyped
brought s = first_of_each [] (script_names s)

-- whether a text stands in a scope
abbrev pub is_in_scope : List (List ℕ × ℕ) → List ℕ → Bool
is_in_scope scope text = list_any (λ p. bytes_eq p.0 text) scope

-- what the script's component and operation have in scope: variables, then outputs and inputs
abbrev pub own_variables : Table → Development → RawScript → List (List ℕ × ℕ)
own_variables table dev s = outer_scope table dev (level_of dev s.name)

-- the inputs and outputs that the script's obligation speaks of
abbrev pub own_parameters : Table → Development → RawScript → List (List ℕ × ℕ)
own_parameters table dev s = parameter_scope table dev (level_of dev s.name) (operation_of dev s.name)

-- of names, those that are new over these outputs and inputs: one that is brought stays what it is, and each other name is new,
-- also where a constant, a set or an element has it
abbrev pub new_over : List (List ℕ × ℕ) → List RawTyped → List RawTyped
new_over own xs = filter (λ x. not (is_in_scope own x.name.text)) xs

-- the names that the script brings and that are no inputs or outputs
abbrev pub new_names : Table → Development → RawScript → List RawTyped
new_names table dev s = new_over (own_parameters table dev s) (brought s)

-- ---- their types
-- names that mean nothing, and hide what they would mean else
abbrev pub hidden : List RawTyped → List (List ℕ × ℕ)
hidden xs = map (λ x. (x.name.text, no_variable)) xs

-- what the types of new names are read in: each of these hides the set, if one has its name
abbrev pub type_scope : Table → Development → RawScript → ScopeNames
type_scope table dev s =
    record { max = int_max dev; names = own_variables table dev s ++ (own_parameters table dev s ++ hidden (new_names table dev s)) }

-- the type that is written for a name, if it is one
abbrev pub type_in : Table → ScopeNames → RawTyped → Option ValueType
type_in table scope x = type_read (names_in table scope) x.ty

-- the type of a name that the script brings
abbrev pub type_of : Table → Development → RawScript → RawTyped → Option ValueType
type_of table dev s x = type_in table (type_scope table dev s) x

-- ---- the table
-- the variable for a name, where it has a type
abbrev pub entry_for : (RawTyped → Option ValueType) → RawTyped → Option VariableEntry
entry_for typed x = option_map (λ t. record { text = x.name.text; of_type = t }) (typed x)

-- a table with a variable for each of the names that has a type
abbrev pub widened_by : (RawTyped → Option ValueType) → Table → List RawTyped → Table
widened_by typed table xs = record table { variables = table.variables ++ filter_map (entry_for typed) xs }

-- with those for the new names of a script
abbrev pub widened : Table → Development → RawScript → Table
widened table dev s = widened_by (type_of table dev s) table (new_names table dev s)

-- ---- the scope
-- the number that a name gets: the next one, where it has a type
abbrev pub number_of : ℕ → Option ValueType → ℕ
number_of n (Some t) = n
number_of n None = no_variable

-- the next number then
abbrev pub next_number : ℕ → Option ValueType → ℕ
next_number n (Some t) = suc n
next_number n None = n

-- names with their numbers, from the next one on: one without a type means nothing, and hides what it would mean else
abbrev pub numbered_names : (RawTyped → Option ValueType) → ℕ → List RawTyped → List (List ℕ × ℕ)
numbered_names typed n [] = []
numbered_names typed n (x ∷ xs) = (x.name.text, number_of n (typed x)) ∷ numbered_names typed (next_number n (typed x)) xs

-- the new names stand after all others
abbrev pub script_scope : Table → Development → RawScript → ScopeNames
script_scope table dev s = record {
  max = int_max dev;
  names = own_variables table dev s
      ++ (own_parameters table dev s ++ numbered_names (type_of table dev s) (length table.variables) (new_names table dev s));
}
