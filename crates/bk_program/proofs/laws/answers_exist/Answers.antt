use Rattle.bk_program.proofs.SomeAnswer.{some_answer}
use Rattle.bk_program.proofs.laws.answers_exist.Goals as goal

pub returns : goal.returns
returns c = some_answer
