use Rattle.bk_code.proofs.Runs.{stores_pushed}
use Rattle.bk_code.proofs.laws.pushes_store.Goals as goal

pub returns : goal.returns
returns c = stores_pushed
