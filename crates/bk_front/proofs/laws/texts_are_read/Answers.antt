use Rattle.bk_front.proofs.SomeReading.{texts_are_read}
use Rattle.bk_front.proofs.laws.texts_are_read.Goals as goal

pub returns : goal.returns
returns c = texts_are_read
