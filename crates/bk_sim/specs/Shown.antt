-- What the cells give the names that a statement may use.
use Rattle.std.specs.Prelude.{◌≡◌, ℕ, ℤ, pos, Bool, true, false, List, [], ◌∷◌, take, drop}
use Rattle.std.specs.Prelude.{length, slice_index_or, Option, Some, None, nat_eq, cond}
use Rattle.std.specs.List.{list_all}
use Rattle.bk_val.specs.Value.{MathValue, bool, pair}
use Rattle.bk_val.specs.ValueType.{ValueType}
use Rattle.bk_form.specs.Table.{set_size}
use Rattle.bk_form.specs.ArrayTable.{row_of}
use Rattle.bk_form.specs.Environment.{State}
use Rattle.bk_form.specs.Operators.{set_value, numbers_from, elements_from}
use Rattle.bk_form.specs.declared.arrays.ArrayRow.{ArrayRow}
use Rattle.bk_form.specs.declared.arrays.ArrayDomain.{ArrayDomain}
use Rattle.bk_form.specs.declared.arrays.ArrayDomain.TheVariants.{Interval, Bool as OfBooleans, Set as OfElements}
use Rattle.bk_gsl.specs.State.{declared_type}
use Rattle.bk_dev.specs.Development.{Development}
use Rattle.bk_dev.specs.Layout.{arrays_of, index_count, cells_of, cell_variables, cell_of}
use Rattle.bk_form.specs.Formula.{Formula}
use Rattle.bk_b0.specs.Kinds.{literal_number, number_as, is_of_kind, cell_type}

-- the cells of the variables in order hold numbers of their kinds, and there are no more
abbrev pub AreOfKinds : Development → List ℕ → List ℤ → Type 0
AreOfKinds dev [] [] = Unit {0}
AreOfKinds dev [] (z ∷ m) = ⊥
AreOfKinds dev (x ∷ xs) m = (length (take (cells_of dev x) m) ≡ cells_of dev x)
    × (list_all (is_of_kind dev (cell_type dev x)) (take (cells_of dev x) m) ≡ true) × AreOfKinds dev xs (drop (cells_of dev x) m)

-- the indices of an array, in the order of its cells
abbrev pub indices : Development → ArrayDomain → List MathValue
indices dev (Interval low high) = numbers_from low (index_count dev.table (Interval low high))
indices dev OfBooleans = bool false ∷ bool true ∷ []
indices dev (OfElements n) = elements_from n 0 (set_size dev.table n)

-- each index with the value of its cell
abbrev pub paired : ValueType → List MathValue → List ℤ → List MathValue
paired t (i ∷ is) (z ∷ m) = pair i (number_as t z) ∷ paired t is m
paired t _ _ = []

-- a variable without a row is the value of its one cell, an array the pairs of its indices and cell values
abbrev pub shown_as : Development → ℕ → Option ArrayRow → List ℤ → MathValue
shown_as dev x None m = number_as (declared_type dev.table x) (slice_index_or m (cell_of dev x) (pos 0))
shown_as dev x (Some row) m = set_value (paired (cell_type dev x) (indices dev row.domain) (drop (cell_of dev x) m))

-- what the cells give a variable: the value of its cell, or the pairs of an array's indices and cell values
abbrev pub shown : Development → List ℤ → ℕ → MathValue
shown dev m x = shown_as dev x (row_of (arrays_of dev) x) m

-- a constant of this list is its literal, every other name what its cells show
abbrev pub seen_by : Development → List ℤ → ℕ → List (ℕ × Formula) → MathValue
seen_by dev m x [] = shown dev m x
seen_by dev m x (p ∷ ps) = cond (nat_eq x p.0) (number_as (declared_type dev.table x) (literal_number p.1)) (seen_by dev m x ps)

-- what the cells give a name: a constant its value, and every other name what its cells show
abbrev pub seen : Development → List ℤ → ℕ → MathValue
seen dev m x = seen_by dev m x dev.values

-- the state gives each of these names what the cells do
abbrev pub ShownIn : Development → (ℕ → Bool) → List ℤ → State → Type 0
ShownIn dev scope m e = (x : ℕ) → scope x ≡ true → e x ≡ seen dev m x

-- each cell holds a number of its kind, and there are as many as the layout has
abbrev pub KindsHold : Development → List ℤ → Type 0
KindsHold dev m = AreOfKinds dev (cell_variables dev) m
