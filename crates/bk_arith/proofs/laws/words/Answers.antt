use Rattle.bk_arith.proofs.SameFormula.{same_is_equal}
use Rattle.bk_arith.proofs.SideValues.{reading_means}
use Rattle.bk_arith.proofs.ClosedValues.{closed-value}
use Rattle.bk_arith.proofs.laws.words.Goals as goal

pub returns-clause-closed_sums : goal.returns-clause-closed_sums
returns-clause-closed_sums c = closed-value

pub returns-clause-same : goal.returns-clause-same
returns-clause-same c = same_is_equal

pub returns-clause-reading : goal.returns-clause-reading
returns-clause-reading c = reading_means
