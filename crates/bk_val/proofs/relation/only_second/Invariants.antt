use Rattle.std.proofs.Common.{◌≡◌, take}
use Rattle.std.specs.Ordering.{eq_by_cmp}
use Rattle.std.specs.Option.{option_to_list, option_copied}
use Rattle.bk_val.specs.Value.{value_cmp}
use Rattle.bk_val.specs.Sets.{seconds_of}
use Rattle.bk_val.proofs.relation.only_second.Given as goal

abbrev pub invariant-loop-p : goal.invariant-loop-p
invariant-loop-p l = seconds_of (eq_by_cmp value_cmp l.x) (take l.p-index l.p-items) ≡ option_to_list (option_copied l.found)
