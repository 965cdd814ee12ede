use Rattle.bk_print.proofs.ReadBack.{files-back}
use Rattle.bk_print.proofs.laws.files_read_back.Goals as goal

pub returns : goal.returns
returns c = files-back
