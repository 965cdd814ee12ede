use Rattle.std.proofs.Common.{map, take}
use Rattle.bk_dev.specs.Flattened.{flattened}
use Rattle.bk_po.specs.Shown.{named_sequent}
use Rattle.bk_print.specs.Found.{AreFound}
use Rattle.bk_print.proofs.searching.search_all.Given as goal

-- what is found for those so far
abbrev pub invariant-loop-index : goal.invariant-loop-index
invariant-loop-index l = AreFound (flattened l.dev) (take l.index (map named_sequent l.list)) (take l.index l.rows) l.outcomes.items
