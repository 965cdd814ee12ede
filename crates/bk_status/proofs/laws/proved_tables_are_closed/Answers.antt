use Rattle.bk_status.proofs.OneTable.{proved_tables_are_closed}
use Rattle.bk_status.proofs.laws.proved_tables_are_closed.Goals as goal

pub returns : goal.returns
returns c = proved_tables_are_closed
