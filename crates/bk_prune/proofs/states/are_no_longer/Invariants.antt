use Rattle.std.proofs.Common.{take}
use Rattle.std.specs.List.{AllZip}
use Rattle.bk_prune.specs.Pruned.{IsNoLonger}
use Rattle.bk_prune.proofs.states.are_no_longer.Given as goal

abbrev pub invariant-loop-index : goal.invariant-loop-index
invariant-loop-index l = AllZip IsNoLonger (take l.index l.old) (take l.index l.new)
