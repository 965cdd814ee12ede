use Rattle.std.proofs.lemmas.Result.{err_from_is_err_and}
use Rattle.bk_image.specs.Reading.{items_at, set_at}
use Rattle.bk_image.proofs.Loop.{goes_on, ends, is_done}
use Rattle.bk_image.proofs.reading.sets_at.Goals as goal

pub returns-in_err-names : goal.returns-in_err-names
returns-in_err-names c =
    let p = err_from_is_err_and c.from_residual.result c.from_residual.ensures.1 in
    rw (p.1, p.2) (ends (set_at c.args.len) c.in_err-names.field-0.0 c.loop.sets.items c.args.count c.loop.counter c.loop.rest.now (items_at (set_at c.args.len) c.args.count c.args.bytes.now) c.loop-test.true c.in_err-names.ensures c.loop.invariant)

pub loop-preserved : goal.loop-preserved
loop-preserved c =
    rw c.in_ok-push.ensures.items (goes_on (set_at c.args.len) c.loop.sets.items c.args.count c.loop.counter c.loop.rest.now c.in_ok-names.names c.in_ok-names.after.now (items_at (set_at c.args.len) c.args.count c.args.bytes.now) c.loop-test.true c.in_ok-names.ensures c.loop.invariant)

pub returns : goal.returns
returns c = is_done (set_at c.args.len) c.loop.sets.items c.args.count c.loop.counter c.loop.rest.now (items_at (set_at c.args.len) c.args.count c.args.bytes.now) c.loop-test.false c.loop.invariant
