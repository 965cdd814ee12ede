use Rattle.std.proofs.Common.{◌≡◌, take, map}
use Rattle.bk_auto.proofs.ordering.add_law.Given as goal

abbrev pub invariant-loop-pick : goal.invariant-loop-pick
invariant-loop-pick l = l.list.items ≡ map (λ f. f.now) (take l.pick-index l.picks)
