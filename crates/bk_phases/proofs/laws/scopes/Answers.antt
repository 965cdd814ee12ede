use Rattle.bk_phases.proofs.Scoped.{scopes-right}
use Rattle.bk_phases.proofs.Listed.{scopes-listed}
use Rattle.bk_phases.proofs.Stays.{statements-stay}
use Rattle.bk_phases.proofs.laws.scopes.Goals as goal

pub returns-clause-right : goal.returns-clause-right
returns-clause-right c = scopes-right

pub returns-clause-listed : goal.returns-clause-listed
returns-clause-listed c = scopes-listed

pub returns-clause-stay : goal.returns-clause-stay
returns-clause-stay c = statements-stay
