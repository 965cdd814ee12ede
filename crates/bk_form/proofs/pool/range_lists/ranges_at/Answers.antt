use Rattle.bk_form.proofs.Pools.Again.{mapped-below, mapped-at}
use Rattle.bk_form.proofs.pool.range_lists.ranges_at.Goals as goal

pub index-requires : goal.index-requires
index-requires c = mapped-below (λ ns. ns.items) c.args.ranges.now.keys c.args.r c.requires

pub returns : goal.returns
returns c = mapped-at (λ ns. ns.items) c.args.ranges.now.keys c.args.r c.index.result.now c.deref.result.now c.index.ensures c.deref.ensures.value
