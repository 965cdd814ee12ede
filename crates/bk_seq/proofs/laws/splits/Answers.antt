use Rattle.bk_seq.proofs.SplitValidity.{split_keeps_validity}
use Rattle.bk_seq.proofs.laws.splits.Goals as goal

pub returns : goal.returns
returns c = split_keeps_validity
