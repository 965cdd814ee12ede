use Rattle.bk_code.proofs.DeadCode.{loadable_is_checked, refuses_dead_store}
use Rattle.bk_code.proofs.laws.loader_checks.Goals as goal

pub returns-clause-checked : goal.returns-clause-checked
returns-clause-checked c = loadable_is_checked

pub returns-clause-dead_code : goal.returns-clause-dead_code
returns-clause-dead_code c = refuses_dead_store
