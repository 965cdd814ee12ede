use Rattle.bk_val.proofs.Quotients.{quotient-rest, quotient-magnitude}
use Rattle.bk_val.proofs.laws.division_rounds_toward_zero.Goals as goal

pub returns-clause-rest : goal.returns-clause-rest
returns-clause-rest c = quotient-rest

pub returns-clause-magnitude : goal.returns-clause-magnitude
returns-clause-magnitude c = quotient-magnitude
