use Rattle.bk_wp.proofs.Examples.{examples, counts-up}
use Rattle.bk_wp.proofs.laws.examples.Goals as goal

pub returns-clause-tables : goal.returns-clause-tables
returns-clause-tables c = examples

pub returns-clause-count_up : goal.returns-clause-count_up
returns-clause-count_up c = counts-up
