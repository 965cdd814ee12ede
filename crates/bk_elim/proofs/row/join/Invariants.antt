use Rattle.std.proofs.Common.{◌≡◌, take}
use Rattle.bk_elim.specs.Elimination.{joined}
use Rattle.bk_elim.proofs.row.join.Given as goal

abbrev pub invariant-loop-k : goal.invariant-loop-k
invariant-loop-k l = l.row.items ≡ take l.k (joined l.atom l.up l.down)
