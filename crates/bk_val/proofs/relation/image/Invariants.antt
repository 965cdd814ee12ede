use Rattle.std.proofs.Common.{◌≡◌, take}
use Rattle.bk_val.specs.Sets.{seconds_of, has}
use Rattle.bk_val.proofs.relation.image.Given as goal

abbrev pub invariant-loop-p : goal.invariant-loop-p
invariant-loop-p l = l.items.items ≡ seconds_of (has l.s) (take l.p-index l.p-items)
