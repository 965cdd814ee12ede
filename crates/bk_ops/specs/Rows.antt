-- Rows of a table of operators.
use Rattle.std.specs.Prelude.{◌≢◌, ℕ, List, Option, map, take}
use Rattle.std.specs.List.{find, AllPairs}
use Rattle.std.specs.Option.{option_map}
use Rattle.std.specs.Str.{bytes_eq}
use Rattle.bk_ops.specs.declared.row.OpRow.{OpRow}

-- the text of a row
abbrev pub text_of : OpRow → List ℕ
text_of row = take row.len row.text

-- the number of a row
abbrev pub number_of : OpRow → ℕ
number_of row = row.op

-- the number of the first row with the text
abbrev pub op_of : List OpRow → List ℕ → Option ℕ
op_of rows text = option_map number_of (find (λ row. bytes_eq text (text_of row)) rows)

-- no two rows have the same text
unfoldable pub TextsDiffer : List OpRow → Type 0
TextsDiffer rows = AllPairs (λ a b. a ≢ b) (map text_of rows)
