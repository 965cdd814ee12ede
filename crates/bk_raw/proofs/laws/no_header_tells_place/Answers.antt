use Rattle.bk_raw.proofs.Places.{place-none}
use Rattle.bk_raw.proofs.laws.no_header_tells_place.Goals as goal

pub returns : goal.returns
returns c = place-none
