use Rattle.bk_raw.proofs.ScopeRight.{names-agree, names-typed}
use Rattle.bk_raw.proofs.readings.scopes_agree.Goals as goal

pub returns : goal.returns
returns c = record { agree = names-agree; typed = names-typed }
