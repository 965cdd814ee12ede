use Rattle.bk_replay.proofs.Reached.{verdict-is-of-standing}
use Rattle.bk_replay.proofs.laws.verdicts_are_of_standings.Goals as goal

pub returns : goal.returns
returns c = verdict-is-of-standing
