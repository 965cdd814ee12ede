use Rattle.std.proofs.Common.{◌++◌, replicate}
use Rattle.bk_scope.proofs.Making.{replicate-more}
use Rattle.bk_elab_level.proofs.made.push_homes.Goals as goal

pub loop-preserved : goal.loop-preserved
loop-preserved c = replicate-more c.args.home c.args.count c.loop.counter c.loop.found.items c.push.new.self.items (c.args.found.now.items ++ replicate c.args.count c.args.home) c.loop-test.true c.in_ok-push.ensures.items c.loop.invariant
