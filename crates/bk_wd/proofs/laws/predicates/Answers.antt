use Rattle.bk_wd.proofs.Predicates.{conditions_are_predicates}
use Rattle.bk_wd.proofs.laws.predicates.Goals as goal

pub returns : goal.returns
returns c = conditions_are_predicates
