use Rattle.bk_front.proofs.OneFile.{lines_have_one_refusal}
use Rattle.bk_front.proofs.laws.lines_have_one_refusal.Goals as goal

pub returns : goal.returns
returns c = lines_have_one_refusal
