use Rattle.std.proofs.Common.{arith}
use Rattle.bk_tests_sessions.proofs.Drawn.{negated_in, element_in, calculated_in}
use Rattle.bk_tests_sessions.proofs.drawing.+number.Goals as goal

pub returns-in_ok-term-in-0 : goal.returns-in_ok-term-in-0
returns-in_ok-term-in-0 t c = negated_in c.args.locals.now c.args.depth c.in_ok-operand-in-0.operand c.in_ok-term-in-0.term c.in_ok-term-in-0.ensures c.in_ok-operand-in-0.ensures

pub returns-in_ok-term-in-1 : goal.returns-in_ok-term-in-1
returns-in_ok-term-in-1 t c = element_in c.args.locals.now c.args.depth c.in_ok-array-in-1.array c.in_ok-index-in-1.index c.in_ok-term-in-1.term c.in_ok-array-in-1.ensures c.in_ok-term-in-1.ensures (omega (arith, c.if-depth-eq0.false)) c.in_ok-index-in-1.ensures

pub returns-in_ok-term-in_default : goal.returns-in_ok-term-in_default
returns-in_ok-term-in_default t c = calculated_in c.args.locals.now c.args.depth c.arithmetic-operator.result c.in_ok-left-in_default.left c.in_ok-right-in_default.right c.in_ok-term-in_default.term c.in_ok-term-in_default.ensures c.arithmetic-operator.ensures (omega (arith, c.if-depth-eq0.false)) c.in_ok-left-in_default.ensures c.in_ok-right-in_default.ensures
