use Rattle.std.proofs.lemmas.Result.{err_from_is_err_and}
use Rattle.bk_image.specs.Reading.{items_at, parameter_at}
use Rattle.bk_image.proofs.Loop.{goes_on, ends, is_done}
use Rattle.bk_image.proofs.reading.some_parameters_at.Goals as goal

pub returns-in_err-parameter : goal.returns-in_err-parameter
returns-in_err-parameter c =
    let p = err_from_is_err_and c.from_residual.result c.from_residual.ensures.1 in
    rw (p.1, p.2) (ends (parameter_at c.args.len) c.in_err-parameter.field-0.0 c.loop.parameters.items c.args.count c.loop.counter c.loop.rest.now (items_at (parameter_at c.args.len) c.args.count c.args.bytes.now) c.loop-test.true c.in_err-parameter.ensures c.loop.invariant)

pub loop-preserved : goal.loop-preserved
loop-preserved c =
    rw c.in_ok-push.ensures.items (goes_on (parameter_at c.args.len) c.loop.parameters.items c.args.count c.loop.counter c.loop.rest.now c.in_ok-parameter.parameter c.in_ok-parameter.after.now (items_at (parameter_at c.args.len) c.args.count c.args.bytes.now) c.loop-test.true c.in_ok-parameter.ensures c.loop.invariant)

pub returns : goal.returns
returns c = is_done (parameter_at c.args.len) c.loop.parameters.items c.args.count c.loop.counter c.loop.rest.now (items_at (parameter_at c.args.len) c.args.count c.args.bytes.now) c.loop-test.false c.loop.invariant
