use Rattle.std.proofs.Common.{arith}
use Rattle.bk_statics.specs.Typings.{interval}
use Rattle.bk_elab_level.proofs.Elaborating.{interval-more, interval-end}
use Rattle.bk_elab_level.proofs.elaborated.numbers.Goals as goal

pub loop-index-preserved : goal.loop-index-preserved
loop-index-preserved c =
    interval-more c.args.first c.args.count c.loop-index.index c.loop-index.found.items c.push.new.self.items (interval c.args.first c.args.count) c.in_ok-ahead.field-0
    (omega arith) c.in_ok-ahead.ensures c.in_ok-push.ensures.items c.loop-index.invariant

pub returns : goal.returns
returns c = interval-end c.args.first c.args.count c.loop-index.index c.loop-index.found.items (interval c.args.first c.args.count) (omega arith) c.loop-index.invariant
