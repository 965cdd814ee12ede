use Rattle.bk_status.proofs.Tables.{closed_tables_prove, closed_tables_are_valid}
use Rattle.bk_status.proofs.laws.closed_tables_prove.Goals as goal

pub returns : goal.returns
returns c = record { proved = closed_tables_prove; valid = closed_tables_are_valid }
