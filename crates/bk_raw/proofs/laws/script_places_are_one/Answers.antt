use Rattle.bk_raw.proofs.ScriptPlaces.{file-places-are-one}
use Rattle.bk_raw.proofs.laws.script_places_are_one.Goals as goal

pub returns : goal.returns
returns c = file-places-are-one
