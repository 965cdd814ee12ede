use Rattle.std.proofs.Common.{rules, subst}
use Rattle.bk_dev.specs.Flattened.{flattened}
use Rattle.bk_po.specs.Obligations.{AreValidForAllSizes}
use Rattle.bk_po.proofs.Carrying.{valid_obligations_carry}
use Rattle.bk_po.proofs.obligation.obligations.Goals as goal

pub returns-clause-value : goal.returns-clause-value
returns-clause-value c = search rules

pub returns-clause-enough : goal.returns-clause-enough
returns-clause-enough c = λ valid find law.
    let dev = c.args.dev.now in
    valid_obligations_carry find law dev c.facts.ensures (subst (AreValidForAllSizes (flattened dev).table) (returns-clause-value c) valid)
