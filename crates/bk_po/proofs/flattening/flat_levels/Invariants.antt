use Rattle.std.proofs.Common.{drop}
use Rattle.bk_po.proofs.FlatEntries.{LevelsLeft}
use Rattle.bk_po.proofs.flattening.flat_levels.Given as goal

abbrev pub invariant-loop-level : goal.invariant-loop-level
invariant-loop-level l = LevelsLeft l.initial.table l.table l.list.items l.levels (drop l.level-index l.levels)
