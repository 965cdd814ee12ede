use Rattle.std.proofs.Common.{◌≡◌, ◌+◌, take, length}
use Rattle.bk_io.proofs.edge.read_file.Given as goal

-- what was there still begins the list, and what is left counts down from what may come
abbrev pub invariant-loop-file : goal.invariant-loop-file
invariant-loop-file g l =
    record {
      kept : take (length l.fn.into.items) l.into.items ≡ l.fn.into.items;
      left : length l.into.items + l.left ≡ length l.fn.into.items + l.max;
    }

abbrev pub decreases-loop-file : goal.decreases-loop-file
decreases-loop-file g l = l.left
