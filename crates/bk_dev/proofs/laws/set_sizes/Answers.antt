use Rattle.bk_dev.proofs.Sizes.{sizes_keep_developments, sizes_hold}
use Rattle.bk_dev.proofs.laws.set_sizes.Goals as goal

pub returns-clause-developments : goal.returns-clause-developments
returns-clause-developments c = sizes_keep_developments

pub returns-clause-hold : goal.returns-clause-hold
returns-clause-hold c = sizes_hold
