use Rattle.bk_raw.proofs.Places.{reading-tells-place}
use Rattle.bk_raw.proofs.laws.reading_tells_place.Goals as goal

pub returns : goal.returns
returns c = reading-tells-place
