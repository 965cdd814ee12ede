use Rattle.bk_laws_log.proofs.True.{laws-are-true}
use Rattle.bk_laws_log.proofs.laws.laws_are_true.Goals as goal

pub returns : goal.returns
returns c = laws-are-true
