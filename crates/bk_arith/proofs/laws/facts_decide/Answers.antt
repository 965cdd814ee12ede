use Rattle.bk_arith.proofs.StatedFacts.{facts_decide}
use Rattle.bk_arith.proofs.laws.facts_decide.Goals as goal

pub returns : goal.returns
returns c = facts_decide
