use Rattle.std.proofs.Common.{◌≡◌, take}
use Rattle.bk_b0.proofs.copies.copied_heads.Given as goal

abbrev pub invariant-loop-head : goal.invariant-loop-head
invariant-loop-head l = l.copies.items ≡ take l.head-index l.heads
