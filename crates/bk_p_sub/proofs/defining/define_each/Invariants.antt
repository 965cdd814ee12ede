use Rattle.std.proofs.Common.{◌≡◌, length}
use Rattle.bk_p_sub.specs.Defining.{define_each}
use Rattle.bk_p_sub.proofs.defining.define_each.Given as goal

abbrev pub invariant-loop-name : goal.invariant-loop-name
invariant-loop-name l = define_each l.names l.others l.rest ≡ define_each l.names l.names l.known

abbrev pub decreases-loop-name : goal.decreases-loop-name
decreases-loop-name l = length l.others
