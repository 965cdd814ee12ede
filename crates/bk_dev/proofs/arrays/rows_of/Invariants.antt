use Rattle.std.proofs.Common.{◌≡◌, ◌++◌, drop}
use Rattle.std.specs.List.{filter_map}
use Rattle.bk_dev.specs.Codes.ClueView.{found_row}
use Rattle.bk_dev.proofs.arrays.rows_of.Given as goal

abbrev pub invariant-loop-variable : goal.invariant-loop-variable
invariant-loop-variable l = l.rows.items ++ filter_map (found_row l.dev) (drop l.variable-index l.variables) ≡ filter_map (found_row l.dev) l.variables
