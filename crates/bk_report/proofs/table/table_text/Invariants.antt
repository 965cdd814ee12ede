use Rattle.std.proofs.Common.{◌≡◌, take}
use Rattle.std.specs.List.{flat_map}
use Rattle.bk_report.specs.Table.{row_text}
use Rattle.bk_report.proofs.table.table_text.Given as goal

-- a line for each row so far
abbrev pub invariant-loop-row : goal.invariant-loop-row
invariant-loop-row l = l.text.items ≡ flat_map row_text (take l.row-index l.rows)
