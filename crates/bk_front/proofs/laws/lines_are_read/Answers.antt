use Rattle.bk_front.proofs.SomeLines.{lines_are_read}
use Rattle.bk_front.proofs.laws.lines_are_read.Goals as goal

pub returns : goal.returns
returns c = lines_are_read
