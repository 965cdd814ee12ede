use Rattle.std.proofs.Common.{◌≡◌, take}
use Rattle.std.specs.List.{filter_map}
use Rattle.bk_scripts.specs.Sight.{entry}
use Rattle.bk_scripts.proofs.sight.entries_of.Given as goal

abbrev pub invariant-loop-variable : goal.invariant-loop-variable
invariant-loop-variable l = l.entries.items ≡ filter_map (entry l.table) (take l.variable-index l.variables)
