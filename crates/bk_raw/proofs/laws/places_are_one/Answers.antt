use Rattle.bk_raw.proofs.Places.{component-places-are-one}
use Rattle.bk_raw.proofs.laws.places_are_one.Goals as goal

pub returns : goal.returns
returns c = component-places-are-one
