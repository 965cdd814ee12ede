use Rattle.std.proofs.Common.{◌≡◌, ◌≤◌, length}
use Rattle.bk_raw.specs.Grammar.Reading.{names}
use Rattle.bk_p_expr.proofs.Lists.{put_all_before}
use Rattle.bk_p_expr.proofs.front.declared_names.Given as goal

abbrev pub invariant-loop-all : goal.invariant-loop-all
invariant-loop-all l = record {
  same : names l.tokens ≡ put_all_before l.all.items (names l.rest);
  shorter : length l.rest ≤ length l.tokens;
}

abbrev pub decreases-loop-all : goal.decreases-loop-all
decreases-loop-all l = length l.rest
