use Rattle.bk_scripts.specs.Parts.{PerhapsPart}
use Rattle.bk_scripts.proofs.Shaped.{one_none}
use Rattle.bk_scripts.proofs.rule.perhaps_place.Goals as goal

pub returns-in-None : goal.returns-in-None
returns-in-None c = one_none PerhapsPart c.args.parts.now c.in-None.ensures
