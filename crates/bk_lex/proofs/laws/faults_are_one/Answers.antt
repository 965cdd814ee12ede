use Rattle.bk_lex.proofs.Cutting.{faults_are_one}
use Rattle.bk_lex.proofs.laws.faults_are_one.Goals as goal

pub returns : goal.returns
returns c = faults_are_one
