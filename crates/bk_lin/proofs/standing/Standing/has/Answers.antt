use Rattle.std.proofs.Common.{sym, arith}
use Rattle.bk_lin.proofs.Held.{number_of_line}
use Rattle.bk_lin.proofs.standing.Standing.has.Goals as goal

pub returns-else-number-given : goal.returns-else-number-given
returns-else-number-given c = sym (number_of_line c.args.self.now.given.now c.args.self.now.size c.args.self.now.lines c.args.self.now.made.now c.args.number (omega arith) (omega arith))
