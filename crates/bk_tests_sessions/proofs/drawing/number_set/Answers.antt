use Rattle.std.proofs.Common.{sym, subst}
use Rattle.bk_tests_sessions.specs.Drawn.{IsDrawn}
use Rattle.bk_tests_sessions.proofs.Drawn.{number_set_in}
use Rattle.bk_tests_sessions.proofs.drawing.number_set.Goals as goal

pub returns : goal.returns
returns c = subst (IsDrawn c.args.locals.now c.args.end c.args.end) (sym c.in_ok-set.ensures) (number_set_in c.args.locals.now c.args.end c.i_or_j-target.result c.in_ok-term.term c.i_or_j-target.ensures c.in_ok-term.ensures)
