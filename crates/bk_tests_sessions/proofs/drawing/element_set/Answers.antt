use Rattle.std.proofs.Common.{sym, subst}
use Rattle.bk_tests_sessions.specs.Drawn.{IsDrawn}
use Rattle.bk_tests_sessions.proofs.Drawn.{element_set_in}
use Rattle.bk_tests_sessions.proofs.drawing.element_set.Goals as goal

pub returns : goal.returns
returns c = subst (IsDrawn c.args.locals.now c.args.end c.args.end) (sym c.in_ok-set.ensures) (element_set_in c.args.locals.now c.args.end c.in_ok-index.index c.in_ok-value.value c.in_ok-index.ensures c.in_ok-value.ensures)
