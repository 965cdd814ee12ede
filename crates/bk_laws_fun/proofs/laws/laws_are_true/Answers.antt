use Rattle.bk_laws_fun.proofs.True.{laws-are-true}
use Rattle.bk_laws_fun.proofs.laws.laws_are_true.Goals as goal

pub returns : goal.returns
returns c = laws-are-true
