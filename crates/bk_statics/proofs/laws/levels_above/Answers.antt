use Rattle.bk_statics.proofs.NewHomes.{homes-stay, old-levels-stay}
use Rattle.bk_statics.proofs.laws.levels_above.Goals as goal

pub returns-clause-levels : goal.returns-clause-levels
returns-clause-levels c = old-levels-stay

pub returns-clause-homes : goal.returns-clause-homes
returns-clause-homes c = homes-stay
