use Rattle.bk_statics.proofs.Links.{links-right}
use Rattle.bk_statics.proofs.Starts.{starts-right}
use Rattle.bk_statics.proofs.States.{states-right}
use Rattle.bk_statics.proofs.laws.initialisations.Goals as goal

pub returns-clause-clauses : goal.returns-clause-clauses
returns-clause-clauses c = λ int_max dev comp h. states-right int_max dev comp h

pub returns-clause-starts : goal.returns-clause-starts
returns-clause-starts c = λ int_max dev comp h e. starts-right int_max dev comp h e

pub returns-clause-links : goal.returns-clause-links
returns-clause-links c = λ int_max dev comp h n m k. links-right int_max dev comp h n m k
