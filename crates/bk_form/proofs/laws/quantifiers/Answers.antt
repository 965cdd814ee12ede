use Rattle.bk_form.proofs.Truth.{for_all-true, for_some-true}
use Rattle.bk_form.proofs.laws.quantifiers.Goals as goal

pub returns-clause-all : goal.returns-clause-all
returns-clause-all c = for_all-true

pub returns-clause-some : goal.returns-clause-some
returns-clause-some c = for_some-true
