-- The translation of an implementation to stack code, as lists of instructions.
use Rattle.std.specs.Prelude.{ℕ, List, ◌++◌, map, length, Option}
use Rattle.bk_form.specs.ArrayTable.{row_of}
use Rattle.bk_form.specs.Table.{element_texts}
use Rattle.bk_form.specs.Formula.{Formula}
use Rattle.bk_form.specs.declared.arrays.ArrayRow.{ArrayRow}
use Rattle.bk_gsl.specs.Substitution.{Substitution}
use Rattle.bk_gsl.specs.State.{declared_type}
use Rattle.bk_dev.specs.Development.{Head, Body, Development, int_max, level_at, last}
use Rattle.bk_dev.specs.Layout.{arrays_of, cells_of, cell_of, cell_count}
use Rattle.bk_code.specs.declared.image.Image.{Image}
use Rattle.bk_code.specs.declared.image.OpEntry.{OpEntry}
use Rattle.bk_code.specs.declared.image.Parameter.{Parameter}
use Rattle.bk_code.specs.declared.instruction.Inst.{Inst}
use Rattle.bk_b0.specs.Places.{Places, kind_of_type, placed_name, placed_load, placed_write, placed_value, placed_array, placed_store}
use Rattle.bk_b0.specs.Places.{placed_assignment, placed_statement, placed_parameter, placed_block, placed_entries, placed_bodies}

-- where a development's names have their values and cells
abbrev pub places_of : Development → Places
places_of dev = record {
  values = dev.values;
  row = λ x. row_of (arrays_of dev) x;
  first_cell = λ x. cell_of dev x;
  cells = λ x. cells_of dev x;
  kind = λ x. kind_of_type (declared_type dev.table x);
}

-- ---- the code over a development's names
-- of a name, a constant being its value
abbrev pub name_code : Development → ℕ → List (ℕ × Formula) → List Inst
name_code dev x ps = placed_name (places_of dev) x ps

-- of reading an array at an index
abbrev pub load_element : Development → ℕ → Option ArrayRow → List Inst
load_element dev f row = placed_load (places_of dev) f row

-- of writing to it
abbrev pub store_element : Development → ℕ → ArrayRow → List Inst
store_element dev f row = placed_write (places_of dev) f row

-- of an expression or a condition
abbrev pub value_code : Development → Formula → List Inst
value_code dev f = placed_value (places_of dev) f

-- of f(i) := v or a fill
abbrev pub array_code : Development → ℕ → ArrayRow → Option (Formula × Formula) → Formula → List Inst
array_code dev x row w f = placed_array (places_of dev) x row w f

-- of x := f
abbrev pub store_code : Development → ℕ → Option ArrayRow → Formula → List Inst
store_code dev x row f = placed_store (places_of dev) x row f

-- of an assignment
abbrev pub assign_code : Development → List (ℕ × Formula) → List Inst
assign_code dev ps = placed_assignment (places_of dev) ps

-- of a statement
abbrev pub statement_code : Development → Substitution → List Inst
statement_code dev s = placed_statement (places_of dev) s

-- ---- the image
-- the kind and the cell of an input or an output
abbrev pub parameter_of : Development → ℕ → Parameter
parameter_of dev x = placed_parameter (places_of dev) x

-- the code of a body, with a Ret after it
abbrev pub operation_code : Development → Body → List Inst
operation_code dev b = placed_block (places_of dev) b.sub

-- the operations' entries, the first starting at this place
abbrev pub entries : Development → ℕ → List Head → List Body → List OpEntry
entries dev place hs bs = placed_entries (places_of dev) place hs bs

-- the code of bodies, one after the other
abbrev pub operations_code : Development → List Body → List Inst
operations_code dev bs = placed_bodies (places_of dev) bs

-- the code of the last level's initialisation, with a Ret after it
abbrev pub init_code : Development → List Inst
init_code dev = placed_block (places_of dev) (level_at dev (last dev)).init

-- the image of the last level: the initialisation's code, and that of each operation in the machine's order
abbrev pub translation : Development → Image
translation dev = record {
  max = int_max dev;
  cells = cell_count dev;
  sets = map element_texts dev.sets;
  ops = entries dev (length (init_code dev)) dev.heads (level_at dev (last dev)).bodies;
  code = init_code dev ++ operations_code dev (level_at dev (last dev)).bodies;
}
