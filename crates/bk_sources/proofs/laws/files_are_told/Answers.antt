use Rattle.bk_sources.proofs.SomeFiles.{files_are_told}
use Rattle.bk_sources.proofs.laws.files_are_told.Goals as goal

pub returns : goal.returns
returns c = files_are_told
