use Rattle.bk_io.proofs.Telling.{pieces_tell}
use Rattle.bk_io.proofs.laws.pieces.Goals as goal

pub returns : goal.returns
returns c = pieces_tell
