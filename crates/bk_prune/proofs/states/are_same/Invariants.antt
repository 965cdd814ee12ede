use Rattle.std.proofs.Common.{◌≡◌, take}
use Rattle.bk_prune.proofs.states.are_same.Given as goal

abbrev pub invariant-loop-index : goal.invariant-loop-index
invariant-loop-index l = take l.index l.new ≡ take l.index l.old
