use Rattle.bk_print.proofs.ReadBack.{read-back}
use Rattle.bk_print.proofs.laws.scripts_read_back.Goals as goal

pub returns : goal.returns
returns c = read-back
