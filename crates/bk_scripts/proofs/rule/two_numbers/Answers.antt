use Rattle.bk_scripts.specs.Parts.{NumberPart}
use Rattle.bk_scripts.proofs.Shaped.{two_none}
use Rattle.bk_scripts.proofs.rule.two_numbers.Goals as goal

pub returns-in_default : goal.returns-in_default
returns-in_default c = two_none NumberPart NumberPart c.args.parts.now c.in_default.ensures
