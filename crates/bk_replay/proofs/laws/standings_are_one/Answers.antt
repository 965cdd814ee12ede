use Rattle.bk_replay.proofs.Reached.{open-is-one, furthest-is-one}
use Rattle.bk_replay.proofs.laws.standings_are_one.Goals as goal

pub returns : goal.returns
returns c = record { left = open-is-one; furthest = furthest-is-one }
