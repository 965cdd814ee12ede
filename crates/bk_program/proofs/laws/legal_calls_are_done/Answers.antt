use Rattle.bk_program.proofs.Legal.{legal_calls_are_done}
use Rattle.bk_program.proofs.laws.legal_calls_are_done.Goals as goal

pub returns : goal.returns
returns c = legal_calls_are_done
