use Rattle.bk_show.proofs.Whole.{shown-back}
use Rattle.bk_show.proofs.laws.shown_reads_back.Goals as goal

pub returns : goal.returns
returns c = shown-back
