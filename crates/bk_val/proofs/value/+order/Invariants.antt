use Rattle.std.proofs.Common.{◌≡◌}
use Rattle.bk_val.proofs.Order.{rest_cmp}
use Rattle.bk_val.proofs.value.+order.Given as goal

abbrev pub invariant-compare_items-loop-i : goal.invariant-compare_items-loop-i
invariant-compare_items-loop-i l = rest_cmp l.i l.a l.b ≡ rest_cmp 0 l.a l.b
