-- The numbers that stand for values, and the types of what cells hold.
use Rattle.std.specs.Prelude.{ℕ, nat_lt, ℤ, pos, negsuc, ◌-ℤ◌, Bool, true, false, not, ◌&&◌, ◌||◌, int_le, Option, Some, None}
use Rattle.std.specs.Ordering.{int_eq}
use Rattle.bk_val.specs.Value.{MathValue, int, bool, elem}
use Rattle.bk_val.specs.ValueType.{ValueType, int_type, bool_type, enum_type, pair_type, set_type}
use Rattle.bk_form.specs.Table.{set_size}
use Rattle.bk_form.specs.ArrayTable.{row_of}
use Rattle.bk_form.specs.declared.arrays.ArrayRow.{ArrayRow}
use Rattle.bk_form.specs.declared.arrays.ArrayDomain.{ArrayDomain}
use Rattle.bk_form.specs.declared.arrays.ArrayDomain.TheVariants.{Interval, Bool as OfBooleans, Set as OfElements}
use Rattle.bk_gsl.specs.State.{declared_type}
use Rattle.bk_dev.specs.Development.{Development, int_max}
use Rattle.bk_dev.specs.Layout.{arrays_of}
use Rattle.bk_form.specs.Formula.{Formula, literal, truth_value, element}
use Rattle.bk_code.specs.Numbers.{truth_number}

-- the value that a number stands for: FALSE is 0, an element its index from 0
abbrev pub number_as : ValueType → ℤ → MathValue
number_as bool_type z = bool (not (int_eq z (pos 0)))
number_as (enum_type s) (pos i) = elem s i
number_as (enum_type s) (negsuc i) = elem s 0
number_as _ z = int z

-- the number that stands for a value
abbrev pub as_number : MathValue → ℤ
as_number (int z) = z
as_number (bool true) = pos 1
as_number (bool false) = pos 0
as_number (elem s i) = pos i
as_number _ = pos 0

-- whether a number stands for a value of the type: a number within INT, 0 or 1, an index of the set
abbrev pub is_of_kind : Development → ValueType → ℤ → Bool
is_of_kind dev int_type z = int_le (pos 0 -ℤ int_max dev) z && int_le z (int_max dev)
is_of_kind dev bool_type z = int_eq z (pos 0) || int_eq z (pos 1)
is_of_kind dev (enum_type s) (pos i) = nat_lt i (set_size dev.table s)
is_of_kind dev _ _ = false

-- the number of a literal, TRUE, FALSE or an element
abbrev pub literal_number : Formula → ℤ
literal_number (literal z) = z
literal_number (truth_value b) = truth_number b
literal_number (element s i) = pos i
literal_number f = pos 0

-- the value of a literal, TRUE, FALSE or an element
abbrev pub literal_value : Formula → MathValue
literal_value (literal z) = int z
literal_value (truth_value b) = bool b
literal_value (element s i) = elem s i
literal_value f = bool false

-- the type of an array's elements, and any other type itself
abbrev pub element_type : ValueType → ValueType
element_type (set_type (pair_type t u)) = u
element_type t = t

-- the type of a variable's cells: of an array its elements', and else its own
abbrev pub row_type : Option ArrayRow → ValueType → ValueType
row_type None t = t
row_type (Some row) t = element_type t

-- the type of what each cell of a variable holds
abbrev pub cell_type : Development → ℕ → ValueType
cell_type dev x = row_type (row_of (arrays_of dev) x) (declared_type dev.table x)

-- the type of an array's indices
abbrev pub index_type : ArrayDomain → ValueType
index_type (Interval low high) = int_type
index_type OfBooleans = bool_type
index_type (OfElements n) = enum_type n
