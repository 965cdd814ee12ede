-- The faults of the formulas in a component's clauses, and declared names without a type.
-- Source: B Language Reference Manual; the places are this project's.
use Rattle.std.specs.Prelude.{ℕ, suc, ℤ, Bool, true, false, cond, List, [], ◌∷◌, ◌++◌, Option, None, Some}
use Rattle.std.specs.Str.{bytes_eq}
use Rattle.bk_val.specs.ValueType.{ValueType, pair_type, set_type}
use Rattle.bk_raw.specs.declared.component.RawValue.{RawValue}
use Rattle.bk_raw.specs.declared.term.RawName.{RawName}
use Rattle.bk_raw.specs.Trees.RawTree.{RawTree}
use Rattle.bk_raw.specs.Trees.ComponentTree.{RawSet}
use Rattle.bk_raw.specs.Meaning.Names.{Names}
use Rattle.bk_raw.specs.Meaning.Outcome.{no_type, ask_value}
use Rattle.bk_raw.specs.Meaning.Binders.{has_type}
use Rattle.bk_raw.specs.Meaning.TermReading.{place_of}
use Rattle.bk_raw.specs.Errors.Faults.{Fault}
use Rattle.bk_statics.specs.Components.{WrittenVariable, Component}
use Rattle.bk_statics.specs.Typings.{Typing, target_in, type_at, outcome_of}
use Rattle.bk_statics.specs.SubFaults.{predicate_faults, value_faults}
use Rattle.bk_statics.specs.Plan.{Declared, Plan, invariant_scope}

-- ---- names without a type
-- whether there is an element
abbrev pub has_name : List RawName → Bool
has_name [] = false
has_name (x ∷ xs) = true

-- a set that is a name alone is no type yet: no text has one, only a tree
-- that is made otherwise, and so each set of the table has an element
abbrev pub set_faults : List RawSet → List Fault
set_faults [] = []
set_faults (s ∷ ss) = cond (has_name s.elements) [] (no_type s.name.at) ++ set_faults ss

-- whether it is the type of a scalar
abbrev pub is_flat : Option ValueType → Bool
is_flat None = false
is_flat (Some (pair_type t u)) = false
is_flat (Some (set_type t)) = false
is_flat (Some _) = true

-- constants, whose numbers are those from n on, without a type, and those that are pairs or sets
abbrev pub constant_faults : Typing → ℕ → List RawName → List Fault
constant_faults typing n [] = []
constant_faults typing n (x ∷ xs) = cond (is_flat (typing n)) [] (no_type x.at) ++ constant_faults typing (suc n) xs

-- the place of a variable's declaration, if it is declared here
abbrev pub declared_at : List WrittenVariable → List ℕ → Option ℕ
declared_at [] x = None
declared_at (v ∷ vs) x = cond (bytes_eq v.name.text x) (Some v.name.at) (declared_at vs x)

-- that place, or else the other
abbrev pub place_or : ℕ → Option ℕ → ℕ
place_or other None = other
place_or other (Some at) = at

-- variables, whose numbers are those from n on, without a type; what is not declared here stands at the component's name
abbrev pub variable_faults : Typing → ℕ → List WrittenVariable → ℕ → List Declared → List Fault
variable_faults typing at vs n [] = []
variable_faults typing at vs n (d ∷ ds) =
    cond (has_type (typing n)) [] (no_type (place_or at (declared_at vs d.text))) ++ variable_faults typing at vs (suc n) ds

-- inputs without a type; these are their names in scope, in order
abbrev pub input_faults : Typing → Names → List RawName → List Fault
input_faults typing (n ∷ ns) (x ∷ xs) =
    cond (has_type (type_at typing (target_in n.meaning))) [] (no_type x.at) ++ input_faults typing ns xs
input_faults typing _ _ = []

-- ---- clauses
-- those of a clause's predicate
abbrev pub stated_faults : ℤ → Typing → Names → Option RawTree → List Fault
stated_faults int_max typing names None = []
stated_faults int_max typing names (Some p) = predicate_faults int_max typing names p

-- those of several
abbrev pub all_stated_faults : ℤ → Typing → Names → List RawTree → List Fault
all_stated_faults int_max typing names [] = []
all_stated_faults int_max typing names (p ∷ ps) = predicate_faults int_max typing names p ++ all_stated_faults int_max typing names ps

-- those of the terms of VALUES, each of which gives a type
abbrev pub entry_faults : ℤ → Typing → Names → List RawValue → List Fault
entry_faults int_max typing globals [] = []
entry_faults int_max typing globals (v ∷ vs) = value_faults int_max typing globals v.value
    ++ ((ask_value (place_of v.value) (outcome_of int_max typing globals v.value)).faults ++ entry_faults int_max typing globals vs)

-- all of a component's clauses
abbrev pub clause_faults : ℤ → Typing → Plan → Component → List Fault
clause_faults int_max typing p c =
    set_faults c.sets
    ++ (constant_faults typing p.constants_at c.constants
    ++ (variable_faults typing c.name.at c.variables p.variables_at p.variables
    ++ (stated_faults int_max typing p.globals c.properties
    ++ (stated_faults int_max typing (invariant_scope p) c.invariant
    ++ (all_stated_faults int_max typing (invariant_scope p) c.assertions
    ++ entry_faults int_max typing p.globals c.values)))))
