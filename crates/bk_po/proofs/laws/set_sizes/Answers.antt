use Rattle.bk_po.proofs.Sizes.{sizes_keep_obligations}
use Rattle.bk_po.proofs.Carrying.{whole_is_correct}
use Rattle.bk_po.proofs.laws.set_sizes.Goals as goal

pub returns-clause-same : goal.returns-clause-same
returns-clause-same c = sizes_keep_obligations

pub returns-clause-whole : goal.returns-clause-whole
returns-clause-whole c = whole_is_correct
