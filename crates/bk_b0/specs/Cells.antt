-- Which names have values or cells.
use Rattle.std.specs.Prelude.{◌≡◌, ℕ, true, false, ◌||◌, List, [], ◌∷◌, Some}
use Rattle.bk_val.specs.ValueType.{ValueType, pair_type, set_type}
use Rattle.bk_form.specs.Formula.{Formula}
use Rattle.bk_form.specs.ArrayTable.{row_of}
use Rattle.bk_form.specs.Table.{variable_type}
use Rattle.bk_form.specs.declared.arrays.ArrayRow.{ArrayRow}
use Rattle.bk_gsl.specs.State.{declared_type, among, firsts}
use Rattle.bk_dev.specs.Development.{Development}
use Rattle.bk_dev.specs.Layout.{arrays_of, cell_variables}
use Rattle.bk_b0.specs.Kinds.{literal_number, number_as, is_of_kind, index_type, literal_value}

-- a constant with a value, or a variable with cells
abbrev pub IsKnown : Development → ℕ → Type 0
IsKnown dev x = among (firsts dev.values) x || among (cell_variables dev) x ≡ true

-- a variable with cells, and no constant
abbrev pub IsCell : Development → ℕ → Type 0
IsCell dev x = (among (firsts dev.values) x ≡ false) × (among (cell_variables dev) x ≡ true)

-- the constants' values are those of their types that their numbers stand for
abbrev pub ValuesHaveKinds : Development → List (ℕ × Formula) → Type 0
ValuesHaveKinds dev [] = Unit {0}
ValuesHaveKinds dev (p ∷ ps) = (is_of_kind dev (declared_type dev.table p.0) (literal_number p.1) ≡ true)
    × (literal_value p.1 ≡ number_as (declared_type dev.table p.0) (literal_number p.1)) × ValuesHaveKinds dev ps

-- each array has cells and is no constant
abbrev pub ArraysHaveCells : Development → Type 0
ArraysHaveCells dev = (x : ℕ) (row : ArrayRow) → row_of (arrays_of dev) x ≡ Some row → IsCell dev x

-- each array's type has that of its indices
abbrev pub ArraysAreTyped : Development → Type 0
ArraysAreTyped dev = (x : ℕ) (row : ArrayRow) → row_of (arrays_of dev) x ≡ Some row →
    (u : ValueType) × (variable_type dev.table x ≡ Some (set_type (pair_type (index_type row.domain) u)))
