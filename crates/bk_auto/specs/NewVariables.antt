-- Tables with new variables.
use Rattle.std.specs.Prelude.{◌≡◌, ◌<◌, ◌^◌, ℕ, List, [], ◌∷◌, ◌++◌, map, decimal}
use Rattle.std.specs.List.{Contains, flat_map}
use Rattle.bk_form.specs.Table.{Table, VariableEntry, with_variable}

-- all texts of a table: of the sets and their elements, and of the variables
abbrev pub texts_of : Table → List (List ℕ)
texts_of t = flat_map (λ s. s.name ∷ s.elements) t.sets ++ map (λ v. v.text) t.variables

-- `v` and a number of 64 bits, and none of these texts
pub record IsNewText (texts : List (List ℕ)) (text : List ℕ) : Type 0 where
  pub number : ℕ
  pub narrow : number < 2 ^ 64
  pub is : text ≡ 118 ∷ decimal number
  pub apart : Contains texts text → ⊥

-- the text of each is new where those before it were added
abbrev pub AreNew : Table → List VariableEntry → Type 0
AreNew table [] = Unit {0}
AreNew table (v ∷ vs) = IsNewText (texts_of table) v.text × AreNew (with_variable table v) vs

-- the large table has the sets and variables of the small one, and perhaps new variables after them: the text of each is `v` and a
-- number, and differs from all other texts of the large table
pub record HasNew (small large : Table) : Type 0 where
  pub more : List VariableEntry
  pub made : large ≡ record small { variables = small.variables ++ more }
  pub new : AreNew small more
