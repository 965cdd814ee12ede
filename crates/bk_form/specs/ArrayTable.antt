-- The arrays that executed code may use.
use Rattle.std.specs.Prelude.{ℕ, ℤ, nat_eq, List, find, Option}
use Rattle.bk_form.specs.declared.arrays.ArrayRow.{ArrayRow}

-- the largest number of the machine, and a row for each array
pub record ArrayTable : Type 0 where
  pub max : ℤ
  pub rows : List ArrayRow

-- the first row of this variable, if there is one
abbrev pub row_of : ArrayTable → ℕ → Option ArrayRow
row_of t n = find (λ r. nat_eq r.var n) t.rows
