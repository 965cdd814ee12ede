use Rattle.std.proofs.Common.{◌≡◌, [], rules}
use Rattle.bk_p_expr.proofs.Powers.{joined_begins, joined_goes_on, joined_ends_with}
use Rattle.bk_p_expr.proofs.terms.joined.Goals as goal

pub loop-at-init : goal.loop-at-init
loop-at-init c = joined_begins c.args.bases.items c.args.last

pub loop-at-preserved : goal.loop-at-preserved
loop-at-preserved c = joined_goes_on c.args.bases.items c.args.last c.loop-at.bases.items c.loop-at.right c.pop.new.self.items (c.in-Some.at, c.in-Some.base) c.in_ok-right.right c.loop-at.invariant c.in-Some.ensures.items c.in_ok-right.ensures

pub returns : goal.returns
returns c = let e : c.loop-at.bases.items ≡ [] = search rules in joined_ends_with c.args.bases.items c.args.last c.loop-at.bases.items c.loop-at.right c.loop-at.invariant e
