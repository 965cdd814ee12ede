use Rattle.std.proofs.lemmas.Result.{err_from_is_err_and}
use Rattle.bk_image.specs.Reading.{items_at, inst_at}
use Rattle.bk_image.proofs.Loop.{goes_on, ends, is_done}
use Rattle.bk_image.proofs.reading.instructions_at.Goals as goal

pub returns-in_err-inst : goal.returns-in_err-inst
returns-in_err-inst c =
    let p = err_from_is_err_and c.from_residual.result c.from_residual.ensures.1 in
    rw (p.1, p.2) (ends (inst_at c.args.len) c.in_err-inst.field-0.0 c.loop.code.items c.args.count c.loop.counter c.loop.rest.now (items_at (inst_at c.args.len) c.args.count c.args.bytes.now) c.loop-test.true c.in_err-inst.ensures c.loop.invariant)

pub loop-preserved : goal.loop-preserved
loop-preserved c =
    rw c.in_ok-push.ensures.items (goes_on (inst_at c.args.len) c.loop.code.items c.args.count c.loop.counter c.loop.rest.now c.in_ok-inst.inst c.in_ok-inst.after.now (items_at (inst_at c.args.len) c.args.count c.args.bytes.now) c.loop-test.true c.in_ok-inst.ensures c.loop.invariant)

pub returns : goal.returns
returns c = is_done (inst_at c.args.len) c.loop.code.items c.args.count c.loop.counter c.loop.rest.now (items_at (inst_at c.args.len) c.args.count c.args.bytes.now) c.loop-test.false c.loop.invariant
