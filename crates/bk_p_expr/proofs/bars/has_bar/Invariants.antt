use Rattle.std.proofs.Common.{◌≡◌, ◌≤◌, drop}
use Rattle.bk_raw.specs.Grammar.Bars.{bar_follows}
use Rattle.bk_p_expr.proofs.bars.has_bar.Given as goal

abbrev pub invariant-loop-token : goal.invariant-loop-token
invariant-loop-token l = record {
  same : bar_follows 0 l.tokens ≡ bar_follows l.open (drop l.token-index l.tokens);
  bound : l.open ≤ l.token-index;
}
