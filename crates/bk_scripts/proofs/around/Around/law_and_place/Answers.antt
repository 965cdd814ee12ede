use Rattle.bk_scripts.specs.Parts.{PlacePart, LawPart}
use Rattle.bk_scripts.specs.Reading.{around_of}
use Rattle.bk_scripts.proofs.Shaped.{two_none}
use Rattle.bk_scripts.proofs.around.Around.law_and_place.Goals as goal

pub returns-in_default : goal.returns-in_default
returns-in_default c = two_none (LawPart (around_of c.args.self.now)) PlacePart c.args.parts.now c.in_default.ensures
