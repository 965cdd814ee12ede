use Rattle.bk_front.proofs.Developments.{read_are_developments, read_are_executable}
use Rattle.bk_front.proofs.laws.what_is_read.Goals as goal

pub returns-clause-development : goal.returns-clause-development
returns-clause-development c = read_are_developments

pub returns-clause-executable : goal.returns-clause-executable
returns-clause-executable c = read_are_executable
