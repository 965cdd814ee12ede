use Rattle.bk_bind.proofs.GivenBack.{opening_gives_back}
use Rattle.bk_bind.proofs.UnderTerms.{opening_means, opening_keeps_role}
use Rattle.bk_bind.proofs.laws.opening.Goals as goal

pub returns-clause-gives_back : goal.returns-clause-gives_back
returns-clause-gives_back c = opening_gives_back

pub returns-clause-means : goal.returns-clause-means
returns-clause-means c = opening_means

pub returns-clause-role : goal.returns-clause-role
returns-clause-role c = opening_keeps_role
