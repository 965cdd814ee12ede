-- Tables of the sets and the variables that formulas speak of.
use Rattle.std.specs.Prelude.{◌≡◌, ◌⊎◌, ℕ, zero, suc, ◌<◌, ◌≤◌, ◌^◌, Bool, true, ◌&&◌, nat_lt}
use Rattle.std.specs.Prelude.{IsTrue, All, List, [], ◌∷◌, ◌++◌, length, decimal, Option, Some}
use Rattle.std.specs.List.{slice_get}
use Rattle.std.specs.Option.{option_map, option_map_or}
use Rattle.bk_val.specs.ValueType.{ValueType, int_type, bool_type, enum_type, pair_type, set_type}

-- an enumerated set with its elements' names, or a deferred set, whose elements have none; names are bytes
pub record SetEntry : Type 0 where
  pub name : List ℕ
  pub elements : List (List ℕ)
  -- how many elements it has; 0 for a deferred set without a size
  pub size : ℕ

-- a variable: its name as bytes, and the type of its values
pub record VariableEntry : Type 0 where
  pub text : List ℕ
  pub of_type : ValueType

-- the sets and the variables, each by its number: its place in the list
pub record Table : Type 0 where
  pub sets : List SetEntry
  pub variables : List VariableEntry

-- the table with no set and no variable
abbrev pub empty_table : Table
empty_table = record { sets = []; variables = [] }

-- the table with one more set
abbrev pub with_set : Table → SetEntry → Table
with_set t s = record t { sets = t.sets ++ s ∷ [] }

-- the table with one more variable
abbrev pub with_variable : Table → VariableEntry → Table
with_variable t v = record t { variables = t.variables ++ v ∷ [] }

-- the sets, of which number n has this size
abbrev pub sized_at : ℕ → ℕ → List SetEntry → List SetEntry
sized_at n size [] = []
sized_at zero size (s ∷ ss) = record s { size = size } ∷ ss
sized_at (suc n) size (s ∷ ss) = s ∷ sized_at n size ss

-- the table whose set n has this size
abbrev pub with_size : Table → ℕ → ℕ → Table
with_size t n size = record t { sets = sized_at n size t.sets }

-- the name of set n, if there is one
abbrev pub set_name : Table → ℕ → Option (List ℕ)
set_name t n = option_map (λ s. s.name) (slice_get t.sets n)

-- the elements' names of set n, if there is one
abbrev pub set_elements : Table → ℕ → Option (List (List ℕ))
set_elements t n = option_map (λ s. s.elements) (slice_get t.sets n)

-- set n is listed, and no names are written for its elements
abbrev pub IsDeferred : Table → ℕ → Type 0
IsDeferred t n = set_elements t n ≡ Some []

-- the size of set n: 0 where it has none, or is not listed
abbrev pub listed_size : Table → ℕ → ℕ
listed_size t n = option_map_or (λ s. s.size) (slice_get t.sets n) 0

-- a number, and 1 for 0
abbrev pub at_least_one : ℕ → ℕ
at_least_one zero = 1
at_least_one (suc n) = suc n

-- ---- names of elements
-- NAME$i, NAME$(i + 1) and so on, so many
abbrev pub texts_from : List ℕ → ℕ → ℕ → List (List ℕ)
texts_from name i zero = []
texts_from name i (suc n) = (name ++ 36 ∷ decimal i) ∷ texts_from name (suc i) n

-- the written names of a set's elements; where none are written, NAME$0, NAME$1 and so on, as many as the size says
abbrev pub texts_of_elements : List ℕ → ℕ → List (List ℕ) → List (List ℕ)
texts_of_elements name size [] = texts_from name 0 size
texts_of_elements name size (x ∷ xs) = x ∷ xs

-- how the elements of a set are written in formulas, replies and images: those of an enumerated set by their names, those of a
-- deferred set by its name and their numbers
abbrev pub element_texts : SetEntry → List (List ℕ)
element_texts s = texts_of_elements s.name s.size s.elements

-- ---- sizes
-- how many elements set n counts as having where formulas are read: one where it has no size yet, 0 where it is not listed
abbrev pub set_size : Table → ℕ → ℕ
set_size t n = option_map_or (λ s. at_least_one s.size) (slice_get t.sets n) 0

-- the name of variable n, if there is one
abbrev pub variable_text : Table → ℕ → Option (List ℕ)
variable_text t n = option_map (λ v. v.text) (slice_get t.variables n)

-- the type of variable n, if there is one
abbrev pub variable_type : Table → ℕ → Option ValueType
variable_type t n = option_map (λ v. v.of_type) (slice_get t.variables n)

-- whether each set in the type is one of the first n
abbrev pub is_among_sets : ℕ → ValueType → Bool
is_among_sets n int_type = true
is_among_sets n bool_type = true
is_among_sets n (enum_type e) = nat_lt e n
is_among_sets n (pair_type s t) = is_among_sets n s && is_among_sets n t
is_among_sets n (set_type t) = is_among_sets n t

-- whether the table lists each set in the type
abbrev pub lists_type : Table → ValueType → Bool
lists_type t s = is_among_sets (length t.sets) s

-- a deferred set, or one with as many elements as names
abbrev pub IsCounted : SetEntry → Type 0
IsCounted s = (s.elements ≡ []) ⊎ (s.size ≡ length s.elements)

-- each enumerated set has as many elements as names, and the types of the variables have only listed sets
pub record IsWellFormed (t : Table) : Type 0 where
  pub counted : All IsCounted t.sets
  pub listed : All (λ v. IsTrue (lists_type t v.of_type)) t.variables

-- numbers of 32 bits reach all sets and all variables
pub record IsNumberable (t : Table) : Type 0 where
  pub few_sets : length t.sets ≤ 2 ^ 32
  pub few_variables : length t.variables ≤ 2 ^ 32
