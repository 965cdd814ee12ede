use Rattle.bk_dev.proofs.Climbing.{calls_climb, openings_climb}
use Rattle.bk_dev.proofs.laws.last_level.Goals as goal

pub returns-clause-calls : goal.returns-clause-calls
returns-clause-calls c = calls_climb

pub returns-clause-openings : goal.returns-clause-openings
returns-clause-openings c = openings_climb
