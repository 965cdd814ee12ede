use Rattle.std.proofs.Common.{arith}
use Rattle.bk_auto.proofs.Loops.{none_same}
use Rattle.bk_auto.proofs.closing.place_of.Goals as goal

pub returns : goal.returns
returns c = none_same c.args.form.now c.args.hyps.now (λ k d b e. c.loop-index.invariant k d (omega (arith, b)) e)
