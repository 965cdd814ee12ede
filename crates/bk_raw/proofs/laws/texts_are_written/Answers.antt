use Rattle.bk_raw.proofs.TextComponents.{operation}
use Rattle.bk_raw.proofs.TextScripts.{script}
use Rattle.bk_raw.proofs.TextSubs.{both-dividers, to-the-left}
use Rattle.bk_raw.proofs.laws.texts_are_written.Goals as goal

pub returns : goal.returns
returns c = record { both_dividers = both-dividers; to_the_left = to-the-left; operation = operation; script = script }
