use Rattle.std.proofs.Common.{arith}
use Rattle.bk_auto.proofs.variables.is_among.Goals as goal

pub returns : goal.returns
returns c = λ e m. c.loop-name.invariant m.0 c.args.text.now (let b = m.1 in omega arith) m.2
