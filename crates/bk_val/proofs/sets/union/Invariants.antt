use Rattle.std.proofs.Common.{◌≡◌, ◌++◌, ◌+◌, ◌-◌, ◌≤◌, length, drop}
use Rattle.bk_val.specs.Sets.{union_of}
use Rattle.bk_val.proofs.sets.union.Given as goal

abbrev pub invariant-loop-i : goal.invariant-loop-i
invariant-loop-i l = record {
  i_in : l.i ≤ length l.left;
  j_in : l.j ≤ length l.right;
  merged : l.items.items ++ union_of (drop l.i l.left) (drop l.j l.right) ≡ union_of l.left l.right;
}

abbrev pub decreases-loop-i : goal.decreases-loop-i
decreases-loop-i l = (length l.left - l.i) + (length l.right - l.j)
