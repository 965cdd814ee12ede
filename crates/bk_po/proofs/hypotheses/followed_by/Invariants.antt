use Rattle.std.proofs.Common.{◌≡◌, ◌++◌, drop}
use Rattle.bk_po.proofs.hypotheses.followed_by.Given as goal

abbrev pub invariant-loop-other : goal.invariant-loop-other
invariant-loop-other l = l.list.items ++ drop l.other-index l.others ≡ l.forms ++ l.others
