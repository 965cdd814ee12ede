use Rattle.bk_laws_set.proofs.True.{laws-are-true}
use Rattle.bk_laws_set.proofs.laws.laws_are_true.Goals as goal

pub returns : goal.returns
returns c = laws-are-true
