use Rattle.std.proofs.Common.{◌≡◌, ◌-◌, ◌++◌, replicate}
use Rattle.bk_elab_level.proofs.made.push_homes.Given as goal

abbrev pub invariant-loop : goal.invariant-loop
invariant-loop l = l.found.items ++ replicate (l.count - l.counter) l.home ≡ l.fn.found.items ++ replicate l.count l.home
