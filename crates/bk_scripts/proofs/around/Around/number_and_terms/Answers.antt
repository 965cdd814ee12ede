use Rattle.bk_scripts.specs.Parts.{NumberPart, TermsPart}
use Rattle.bk_scripts.specs.Reading.{around_of}
use Rattle.bk_scripts.proofs.Shaped.{two_none}
use Rattle.bk_scripts.proofs.around.Around.number_and_terms.Goals as goal

pub returns-in_default : goal.returns-in_default
returns-in_default c = two_none NumberPart (TermsPart (around_of c.args.self.now)) c.args.parts.now c.in_default.ensures
