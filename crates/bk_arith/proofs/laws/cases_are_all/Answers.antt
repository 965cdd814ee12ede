use Rattle.bk_arith.proofs.CasesHold.{cases_are_all}
use Rattle.bk_arith.proofs.laws.cases_are_all.Goals as goal

pub returns : goal.returns
returns c = cases_are_all
