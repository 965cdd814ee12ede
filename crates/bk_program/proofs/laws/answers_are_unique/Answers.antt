use Rattle.bk_program.proofs.OneAnswer.{one_answer}
use Rattle.bk_program.proofs.laws.answers_are_unique.Goals as goal

pub returns : goal.returns
returns c = one_answer
