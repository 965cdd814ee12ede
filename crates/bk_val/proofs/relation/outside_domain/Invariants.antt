use Rattle.std.proofs.Common.{◌≡◌, take}
use Rattle.std.specs.List.{filter}
use Rattle.bk_val.specs.Sets.{begins_outside}
use Rattle.bk_val.proofs.relation.outside_domain.Given as goal

abbrev pub invariant-loop-p : goal.invariant-loop-p
invariant-loop-p l = l.items.items ≡ filter (begins_outside l.s) (take l.p-index l.p-items)
