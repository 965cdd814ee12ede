use Rattle.bk_gsl.proofs.Runs.{changes-only, run-typed}
use Rattle.bk_gsl.proofs.laws.runs.Goals as goal

pub returns-clause-writes : goal.returns-clause-writes
returns-clause-writes c = changes-only

pub returns-clause-types : goal.returns-clause-types
returns-clause-types c = run-typed
