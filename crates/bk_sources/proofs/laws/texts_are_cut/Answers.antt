use Rattle.bk_sources.proofs.SomeCut.{texts_are_cut}
use Rattle.bk_sources.proofs.laws.texts_are_cut.Goals as goal

pub returns : goal.returns
returns c = texts_are_cut
