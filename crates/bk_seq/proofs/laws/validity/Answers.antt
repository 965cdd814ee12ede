use Rattle.bk_seq.proofs.Validity.{assumed, weakens, contradicts}
use Rattle.bk_seq.proofs.laws.validity.Goals as goal

pub returns-clause-assumed : goal.returns-clause-assumed
returns-clause-assumed c = assumed

pub returns-clause-weakens : goal.returns-clause-weakens
returns-clause-weakens c = weakens

pub returns-clause-contradicts : goal.returns-clause-contradicts
returns-clause-contradicts c = contradicts
