use Rattle.bk_statics.proofs.Lowers.{lowers-right}
use Rattle.bk_statics.proofs.NewLevel.{new-clauses}
use Rattle.bk_statics.proofs.NewBodies.{new-bodies}
use Rattle.bk_statics.proofs.Machines.{machines-right}
use Rattle.bk_statics.proofs.laws.new_levels.Goals as goal

pub returns-clause-clauses : goal.returns-clause-clauses
returns-clause-clauses c = new-clauses

pub returns-clause-bodies : goal.returns-clause-bodies
returns-clause-bodies c = new-bodies

pub returns-clause-machines : goal.returns-clause-machines
returns-clause-machines c = machines-right

pub returns-clause-lowers : goal.returns-clause-lowers
returns-clause-lowers c = lowers-right
