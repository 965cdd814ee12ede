use Rattle.bk_scripts.specs.Parts.{NumberPart, PlacePart}
use Rattle.bk_scripts.proofs.Shaped.{two_none}
use Rattle.bk_scripts.proofs.rule.number_and_place.Goals as goal

pub returns-in_default : goal.returns-in_default
returns-in_default c = two_none NumberPart PlacePart c.args.parts.now c.in_default.ensures
