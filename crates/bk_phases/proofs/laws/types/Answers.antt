use Rattle.bk_phases.proofs.Asking.{places-ask}
use Rattle.bk_phases.proofs.Settled.{settled}
use Rattle.bk_phases.proofs.Standing.{types-stand}
use Rattle.bk_phases.proofs.Told.{rounds-told}
use Rattle.bk_phases.proofs.Typed.{statements-type}
use Rattle.bk_phases.proofs.laws.types.Goals as goal

pub returns-clause-settled : goal.returns-clause-settled
returns-clause-settled c = settled

pub returns-clause-listed : goal.returns-clause-listed
returns-clause-listed c = rounds-told

pub returns-clause-stand : goal.returns-clause-stand
returns-clause-stand c = types-stand

pub returns-clause-asks : goal.returns-clause-asks
returns-clause-asks c = λ d s. places-ask s d

pub returns-clause-types : goal.returns-clause-types
returns-clause-types c = statements-type
