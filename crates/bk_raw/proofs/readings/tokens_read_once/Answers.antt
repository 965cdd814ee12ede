use Rattle.bk_raw.proofs.ScopeRight.{read-once}
use Rattle.bk_raw.proofs.readings.tokens_read_once.Goals as goal

pub returns : goal.returns
returns c = read-once
