use Rattle.bk_scripts.specs.Parts.{TermsPart}
use Rattle.bk_scripts.specs.Reading.{around_of}
use Rattle.bk_scripts.proofs.Shaped.{one_none}
use Rattle.bk_scripts.proofs.around.Around.some_terms.Goals as goal

pub returns-in-None : goal.returns-in-None
returns-in-None c = one_none (TermsPart (around_of c.args.self.now)) c.args.parts.now c.in-None.ensures
