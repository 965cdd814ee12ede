use Rattle.std.proofs.Common.{suc, sym, subst, arith}
use Rattle.bk_tests_sessions.specs.Drawn.{IsTest}
use Rattle.bk_tests_sessions.proofs.Drawn.{test_b, test_not, connected_in}
use Rattle.bk_tests_sessions.proofs.drawing.+condition.Goals as goal

pub returns-in_ok-term-in-0 : goal.returns-in_ok-term-in-0
returns-in_ok-term-in-0 t c = subst (IsTest c.args.locals.now (suc c.args.depth)) (sym c.in_ok-term-in-0.ensures) (test_b c.args.locals.now c.args.depth)

pub returns-in_ok-term-in-1 : goal.returns-in_ok-term-in-1
returns-in_ok-term-in-1 t c = subst (IsTest c.args.locals.now (suc c.args.depth)) (sym c.in_ok-term-in-1.ensures) (test_not c.args.locals.now (suc c.args.depth) c.in_ok-operand-in-1.operand c.in_ok-operand-in-1.ensures)

pub returns-in_ok-term-in_default : goal.returns-in_ok-term-in_default
returns-in_ok-term-in_default t c = connected_in c.args.locals.now c.args.depth c.connective-operator.result c.in_ok-left-in_default.left c.in_ok-right-in_default.right c.in_ok-term-in_default.term c.in_ok-term-in_default.ensures c.connective-operator.ensures (omega (arith, c.if-depth-eq0.false)) c.in_ok-left-in_default.ensures c.in_ok-right-in_default.ensures
