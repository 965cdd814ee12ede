use Rattle.std.proofs.Common.{◌≡◌, ◌++◌, take}
use Rattle.bk_val.proofs.sets.copy_onto.Given as goal

abbrev pub invariant-loop-x : goal.invariant-loop-x
invariant-loop-x l = l.items.items ≡ l.initial.items.items ++ take l.x-index l.from
