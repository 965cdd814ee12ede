use Rattle.bk_statics.proofs.Apart.{level-outputs, level-binders}
use Rattle.bk_statics.proofs.Counted.{stands-apart}
use Rattle.bk_statics.proofs.Homes.{homes-all}
use Rattle.bk_statics.proofs.laws.binders.Goals as goal

pub returns-clause-intervals : goal.returns-clause-intervals
returns-clause-intervals c = λ int_max typing p comp. (level-outputs int_max typing p comp, level-binders int_max typing p comp)

pub returns-clause-apart : goal.returns-clause-apart
returns-clause-apart c = stands-apart

pub returns-clause-homes : goal.returns-clause-homes
returns-clause-homes c = homes-all
