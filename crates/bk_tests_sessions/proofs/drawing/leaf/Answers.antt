use Rattle.std.proofs.Common.{sym, subst}
use Rattle.bk_tests_sessions.specs.Drawn.{IsNumber}
use Rattle.bk_tests_sessions.proofs.Drawn.{number_i, number_j, number_k}
use Rattle.bk_tests_sessions.proofs.drawing.leaf.Goals as goal

pub returns-in_ok-term-in-0 : goal.returns-in_ok-term-in-0
returns-in_ok-term-in-0 c = subst (IsNumber c.args.locals.now 0) (sym c.in_ok-term-in-0.ensures) (number_i c.args.locals.now 0)

pub returns-in_ok-term-in-1 : goal.returns-in_ok-term-in-1
returns-in_ok-term-in-1 c = subst (IsNumber c.args.locals.now 0) (sym c.in_ok-term-in-1.ensures) (number_j c.args.locals.now 0)

pub returns-in_ok-term-in-2 : goal.returns-in_ok-term-in-2
returns-in_ok-term-in-2 c = subst (IsNumber c.args.locals.now 0) (sym c.in_ok-term-in-2.ensures) (number_k c.args.locals.now 0)
