use Rattle.bk_gsl.proofs.Examples.{swaps, puts-back, counts-down, never-ends}
use Rattle.bk_gsl.proofs.laws.examples.Goals as goal

pub returns-clause-swap : goal.returns-clause-swap
returns-clause-swap c = swaps

pub returns-clause-local : goal.returns-clause-local
returns-clause-local c = puts-back

pub returns-clause-count_down : goal.returns-clause-count_down
returns-clause-count_down c = counts-down

pub returns-clause-forever : goal.returns-clause-forever
returns-clause-forever c = never-ends
