use Rattle.bk_statics.specs.OperationFaults.{heads_as}
use Rattle.bk_scope.specs.Shown.{above_shown}
use Rattle.bk_check_clauses.proofs.HeaderSteps.{heads-passed}
use Rattle.bk_check_clauses.proofs.headers.heads_as.Goals as goal

pub loop-index-preserved : goal.loop-index-preserved
loop-index-preserved c =
    let dev = above_shown c.args.above in
    let heads = c.heads-heads.result.now in
    heads-passed dev heads c.args.operation.now c.loop-index.index c.index-heads-index.result c.in_ok-heads_alike.field-0 (heads_as dev 0 heads c.args.operation.now) c.loop-index-test.true c.index-heads-index.is c.in_ok-heads_alike.ensures c.if-not-branch.false c.loop-index.invariant
