use Rattle.std.proofs.Common.{length, get_or, arith}
use Rattle.bk_form.specs.PoolKeys.{held}
use Rattle.bk_form.proofs.Pools.Again.{copied, all-copied, numbers_below, entry-below}
use Rattle.bk_form.proofs.pool.members_at.Goals as goal

pub loop-n-preserved : goal.loop-n-preserved
loop-n-preserved c = copied (held c.args.members.now.entries) c.args.numbers.now c.loop-n.n-index 0 c.loop-n.copies.items c.push.new.self.items c.index.result.now c.in_ok-copy.copy c.loop-n.invariant (omega arith) c.index.ensures c.in_ok-copy.ensures c.in_ok-push.ensures.items

pub returns : goal.returns
returns c = all-copied (held c.args.members.now.entries) c.args.numbers.now c.loop-n.n-index c.loop-n.copies.items (omega arith) c.loop-n.invariant

pub index-requires : goal.index-requires
index-requires c = entry-below c.args.members.now.entries (get_or c.args.numbers.now c.loop-n.n-index 0) (numbers_below c.args.numbers.now (length (held c.args.members.now.entries)) c.loop-n.n-index 0 c.requires (omega arith))
