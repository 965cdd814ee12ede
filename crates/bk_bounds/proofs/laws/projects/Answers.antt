use Rattle.bk_bounds.proofs.Projects.{read_have_room}
use Rattle.bk_bounds.proofs.laws.projects.Goals as goal

pub returns : goal.returns
returns c = read_have_room
