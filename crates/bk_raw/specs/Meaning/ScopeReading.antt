-- What a term reads as by itself: in a scope, over a table of variables and sets. Scopes are this project's own.
use Rattle.std.specs.Prelude.{ℕ, ℤ, suc, cond, List, [], ◌∷◌, ◌++◌, Option, None, Some}
use Rattle.std.specs.Str.{bytes_eq}
use Rattle.bk_val.specs.ValueType.{ValueType}
use Rattle.bk_form.specs.Table.{Table, SetEntry, variable_type}
use Rattle.bk_form.specs.Formula.{Formula}
use Rattle.bk_raw.specs.Trees.RawTree.{RawTree}
use Rattle.bk_raw.specs.Meaning.Names.{Names, Meaning, global, set_name, element_name, nothing}
use Rattle.bk_raw.specs.Meaning.Outcome.{whole, Outcome, partial, ranging, holding, silent, Reading, Asked, answered, refused, no_type}
use Rattle.bk_raw.specs.Meaning.TermReading.{place_of, reading}

-- MAXINT, and names with the numbers of their variables: of several with one text the last is meant
pub record ScopeNames : Type 0 where
  pub max : ℤ
  pub names : List (List ℕ × ℕ)

-- the number of the last of the names with the text, and else this
abbrev pub last_from : Option ℕ → List (List ℕ × ℕ) → List ℕ → Option ℕ
last_from o [] text = o
last_from o (p ∷ ps) text = last_from (cond (bytes_eq p.0 text) (Some p.1) o) ps text

-- ---- the names in scope
-- the elements of set s from the i-th on
abbrev pub element_names : ℕ → ℕ → List (List ℕ) → Names
element_names s i [] = []
element_names s i (x ∷ xs) = record { text = x; meaning = element_name s i } ∷ element_names s (suc i) xs

-- the sets from the s-th on, each with its elements
abbrev pub set_names : ℕ → List SetEntry → Names
set_names s [] = []
set_names s (e ∷ es) = record { text = e.name; meaning = set_name s } ∷ (element_names s 0 e.elements ++ set_names (suc s) es)

-- what a name of the variable n means, where the variable has this type; a number that is no variable's means nothing
abbrev pub variable_meaning : ℕ → Option ValueType → Meaning
variable_meaning n None = nothing
variable_meaning n (Some t) = global n (Some t)

-- the names of a scope in front of others, the last one innermost
abbrev pub scope_names : Table → List (List ℕ × ℕ) → Names → Names
scope_names table [] around = around
scope_names table (p ∷ ps) around =
    scope_names table ps (record { text = p.0; meaning = variable_meaning p.1 (variable_type table p.1) } ∷ around)

-- all names in scope: those of the scope, and around them the sets of the table and their elements
abbrev pub names_in : Table → ScopeNames → Names
names_in table scope = scope_names table scope.names (set_names 0 table.sets)

-- ---- the formula
-- what is asked of a term by itself: a predicate, a domain, or an expression that gives a type
abbrev pub ask_formula : ℕ → Outcome → Asked Formula
ask_formula at (partial (whole f t)) = answered f
ask_formula at (partial p) = refused (no_type at)
ask_formula at (ranging f t there) = answered f
ask_formula at (holding p) = answered p
ask_formula at silent = refused []

-- what the term reads as
abbrev pub reading_in : Table → ScopeNames → RawTree → Reading
reading_in table scope t = reading scope.max (names_in table scope) t

-- the formula that it reads as, if it reads as one, and all faults in it
abbrev pub formula_in : Table → ScopeNames → RawTree → Asked Formula
formula_in table scope t = record {
  answer = (ask_formula (place_of t) (reading_in table scope t).outcome).answer;
  faults = (reading_in table scope t).faults ++ (ask_formula (place_of t) (reading_in table scope t).outcome).faults;
}
