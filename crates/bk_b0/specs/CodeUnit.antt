-- The executable part of an implementation: what its translation reads.
use Rattle.std.specs.Prelude.{◌≡◌, ℕ, ◌+◌, nat_eq, cond, List, [], ◌∷◌, ◌++◌, map, length}
use Rattle.bk_form.specs.Table.{Table, SetEntry, element_texts}
use Rattle.bk_form.specs.ArrayTable.{ArrayTable, row_of}
use Rattle.bk_form.specs.Formula.{Formula}
use Rattle.bk_gsl.specs.Substitution.{Substitution}
use Rattle.bk_gsl.specs.State.{declared_type}
use Rattle.bk_dev.specs.B0.{IsB0Development}
use Rattle.bk_dev.specs.Development.{Head, Body, Development, level_at, last}
use Rattle.bk_dev.specs.Facts.{IsLawful}
use Rattle.bk_dev.specs.Layout.{arrays_of, row_cells, cell_variables}
use Rattle.bk_code.specs.declared.image.Image.{Image}
use Rattle.bk_code.specs.declared.instruction.Inst.{Inst}
use Rattle.bk_b0.specs.Places.{Places, kind_of_type, placed_block, placed_entries, placed_bodies}
use Rattle.bk_b0.specs.declared.slot.Slot.{Slot}

-- the variables with cells in their order, the constants' values, the arrays, the sets with their elements' names, and the
-- statements of the initialisation and of each operation; the table has the variables' types
pub record CodeUnit : Type 0 where
  pub table : Table
  pub slots : List Slot
  pub values : List (ℕ × Formula)
  pub arrays : ArrayTable
  pub sets : List SetEntry
  pub heads : List Head
  pub init : Substitution
  -- in the order of the headers
  pub bodies : List Body

-- a variable with its number of cells
abbrev pub slot_with : Table → ArrayTable → ℕ → Slot
slot_with table arrays x = record { variable = x; cells = row_cells table (row_of arrays x) }

-- a development's variable with its number of cells
abbrev pub slot_of : Development → ℕ → Slot
slot_of dev x = slot_with dev.table (arrays_of dev) x

-- the executable part of a development's last level
abbrev pub unit_of : Development → CodeUnit
unit_of dev = record {
  table = dev.table;
  slots = map (slot_of dev) (cell_variables dev);
  values = dev.values;
  arrays = arrays_of dev;
  sets = dev.sets;
  heads = dev.heads;
  init = (level_at dev (last dev)).init;
  bodies = (level_at dev (last dev)).bodies;
}

-- the first cell of a variable: the cells of those before it are in front
abbrev pub first_of : ℕ → List Slot → ℕ
first_of x [] = 0
first_of x (s ∷ ss) = cond (nat_eq x s.variable) 0 (s.cells + first_of x ss)

-- how many cells there are
abbrev pub slots_cells : List Slot → ℕ
slots_cells [] = 0
slots_cells (s ∷ ss) = s.cells + slots_cells ss

-- where its names have their values and cells
abbrev pub unit_places : CodeUnit → Places
unit_places u = record {
  values = u.values;
  row = λ x. row_of u.arrays x;
  first_cell = λ x. first_of x u.slots;
  cells = λ x. row_cells u.table (row_of u.arrays x);
  kind = λ x. kind_of_type (declared_type u.table x);
}

-- the code of the initialisation and of each operation
abbrev pub unit_code : CodeUnit → List Inst
unit_code u = placed_block (unit_places u) u.init ++ placed_bodies (unit_places u) u.bodies

-- its image
abbrev pub unit_image : CodeUnit → Image
unit_image u = record {
  max = u.arrays.max;
  cells = slots_cells u.slots;
  sets = map element_texts u.sets;
  ops = placed_entries (unit_places u) (length (placed_block (unit_places u) u.init)) u.heads u.bodies;
  code = unit_code u;
}

-- it is that of a lawful development in B0, whose last level may stand below another implementation
pub record IsCodeUnit (u : CodeUnit) : Type 0 where
  pub dev : Development
  pub lawful : IsLawful dev
  pub in_b0 : IsB0Development dev
  pub is : u ≡ unit_of dev
