use Rattle.std.proofs.Common.{arith}
use Rattle.bk_prune.proofs.states.is_no_longer.Goals as goal

pub returns : goal.returns
returns c = λ yes. record {
  named = c.in_ok-is_named.ensures c.if-not-is_named.false;
  shorter = omega (arith, c.rule_count-before.ensures, c.rule_count-after.ensures);
}
