use Rattle.bk_raw.proofs.Blamed.{blame-right, blame-joins}
use Rattle.bk_elab_terms.proofs.laws.blame_is_first.Goals as goal

pub returns-clause-first : goal.returns-clause-first
returns-clause-first c = blame-right

pub returns-clause-joins : goal.returns-clause-joins
returns-clause-joins c = blame-joins
