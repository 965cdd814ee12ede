use Rattle.bk_status.proofs.OneState.{states_are_one}
use Rattle.bk_status.proofs.OneTable.{tables_are_one}
use Rattle.bk_status.proofs.laws.tables_are_one.Goals as goal

pub returns : goal.returns
returns c = record { states = states_are_one; tables = tables_are_one }
