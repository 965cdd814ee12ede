use Rattle.bk_phases.proofs.Names.{binds, have-symbols, next-numbers}
use Rattle.bk_phases.proofs.Headed.{are-headed}
use Rattle.bk_phases.proofs.Places.{stands}
use Rattle.bk_phases.proofs.laws.statements.Goals as goal

pub returns-clause-bound : goal.returns-clause-bound
returns-clause-bound c = binds

pub returns-clause-symbols : goal.returns-clause-symbols
returns-clause-symbols c = have-symbols

pub returns-clause-numbers : goal.returns-clause-numbers
returns-clause-numbers c = λ d s. next-numbers s d

pub returns-clause-places : goal.returns-clause-places
returns-clause-places c = stands

pub returns-clause-headed : goal.returns-clause-headed
returns-clause-headed c = are-headed
