use Rattle.std.proofs.Common.{◌<◌, length, arith}
use Rattle.bk_prune.proofs.Ready.{rows_more, rows_all}
use Rattle.bk_prune.proofs.states.are_same.Goals as goal

pub loop-index-preserved : goal.loop-index-preserved
loop-index-preserved c =
    let l = c.loop-index in
    let there : l.index < length c.args.new.now = omega arith in
    rows_more c.args.old.now c.args.new.now l.index c.index-old-index.result c.index-new-index.result c.loop-index-test.true c.index-old-index.is there c.index-new-index.is l.invariant (c.is_same.ensures c.if-not-is_same.false)

pub returns : goal.returns
returns c = λ yes. rows_all c.args.old.now c.args.new.now c.loop-index.index (omega arith) (omega arith) c.loop-index.invariant
