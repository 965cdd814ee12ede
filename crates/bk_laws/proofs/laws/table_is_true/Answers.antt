use Rattle.bk_laws.proofs.Truth.{table-is-true}
use Rattle.bk_laws.proofs.laws.table_is_true.Goals as goal

pub returns : goal.returns
returns c = table-is-true
