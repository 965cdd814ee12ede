use Rattle.bk_program.proofs.Following.{closed_tables_follow}
use Rattle.bk_program.proofs.laws.closed_tables_follow.Goals as goal

pub returns : goal.returns
returns c = closed_tables_follow
