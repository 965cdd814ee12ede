use Rattle.bk_program.proofs.Legal.{projects_end}
use Rattle.bk_program.proofs.laws.proved_projects_end.Goals as goal

pub returns : goal.returns
returns c = projects_end
