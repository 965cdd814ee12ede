use Rattle.std.proofs.Common.{◌≡◌, take}
use Rattle.bk_val.proofs.value.+copy.Given as goal

abbrev pub invariant-ValSet::copy-loop-x : goal.invariant-ValSet::copy-loop-x
invariant-ValSet::copy-loop-x l = l.items.items ≡ take l.x-index l.x-items
