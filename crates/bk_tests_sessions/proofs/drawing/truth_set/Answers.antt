use Rattle.std.proofs.Common.{sym, subst}
use Rattle.bk_tests_sessions.specs.Drawn.{IsDrawn}
use Rattle.bk_tests_sessions.proofs.Drawn.{truth_set_in}
use Rattle.bk_tests_sessions.proofs.drawing.truth_set.Goals as goal

pub returns : goal.returns
returns c = subst (IsDrawn c.args.locals.now c.args.end c.args.end) (sym c.in_ok-set.ensures) (truth_set_in c.args.locals.now c.args.end c.in_ok-test.test c.in_ok-term.term c.in_ok-term.ensures c.in_ok-test.ensures)
