use Rattle.std.proofs.Common.{arith}
use Rattle.bk_form.proofs.Pools.Again.{mapped-below, mapped-read}
use Rattle.bk_form.proofs.pool.type_lists.types_at.Goals as goal

pub index-requires : goal.index-requires
index-requires c = omega (arith, mapped-below (λ ts. ts.items) c.args.types.now.items c.args.t c.requires, c.args.types.now.ok.0)

pub returns : goal.returns
returns c = mapped-read (λ ts. ts.items) c.args.types.now.items c.args.t c.index.result.now c.deref.result.now c.requires c.index.ensures c.deref.ensures.value
