use Rattle.std.proofs.Common.{subst}
use Rattle.bk_print.specs.InScope.{PartsFit, RuleFits}
use Rattle.bk_print.proofs.Steps.{one_more}
use Rattle.bk_print.proofs.facts.are_in_range.Goals as goal

pub loop-rule-preserved : goal.loop-rule-preserved
loop-rule-preserved c =
    one_more RuleFits c.args.rules.now c.loop-rule.rule-index c.rule-item.result c.loop-rule-test.true c.rule-item.is c.loop-rule.invariant (subst PartsFit c.parts_of.ensures c.parts_in_range.ensures)
