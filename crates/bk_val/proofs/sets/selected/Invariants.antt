use Rattle.std.proofs.Common.{◌≡◌, take, not}
use Rattle.std.specs.List.{filter}
use Rattle.std.specs.Prelude.{if◌then◌else◌}
use Rattle.bk_val.specs.Sets.{has}
use Rattle.bk_val.proofs.sets.selected.Given as goal

abbrev pub invariant-loop-x : goal.invariant-loop-x
invariant-loop-x l = l.items.items ≡ filter (λ x. if l.present then has l.b x else not (has l.b x)) (take l.x-index l.x-items)
