use Rattle.std.proofs.Common.{subst}
use Rattle.bk_form.specs.Pools.{IsPool}
use Rattle.bk_form.proofs.pool.Pool.is_pool.Goals as goal

pub returns : goal.returns
returns c = subst IsPool c.self.view_is c.self.invariant.pool
