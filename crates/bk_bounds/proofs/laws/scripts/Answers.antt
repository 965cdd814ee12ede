use Rattle.bk_bounds.proofs.Projects.{read_scripts_have_room}
use Rattle.bk_bounds.proofs.laws.scripts.Goals as goal

pub returns : goal.returns
returns c = read_scripts_have_room
