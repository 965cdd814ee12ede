use Rattle.bk_form.proofs.Pools.Pooled.{closed, grows}
use Rattle.bk_form.proofs.laws.pools.Goals as goal

pub returns : goal.returns
returns c = record { closed = closed; grows = grows }
