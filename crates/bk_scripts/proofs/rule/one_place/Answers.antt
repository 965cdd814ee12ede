use Rattle.bk_scripts.specs.Parts.{PlacePart}
use Rattle.bk_scripts.proofs.Shaped.{one_none}
use Rattle.bk_scripts.proofs.rule.one_place.Goals as goal

pub returns-in-None : goal.returns-in-None
returns-in-None c = one_none PlacePart c.args.parts.now c.in-None.ensures
