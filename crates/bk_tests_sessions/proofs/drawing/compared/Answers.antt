use Rattle.std.proofs.Common.{suc, sym, subst}
use Rattle.bk_tests_sessions.specs.Drawn.{IsTest}
use Rattle.bk_tests_sessions.proofs.Drawn.{test_of}
use Rattle.bk_tests_sessions.proofs.drawing.compared.Goals as goal

pub returns : goal.returns
returns c = subst (IsTest c.args.locals.now (suc c.args.depth)) (sym c.in_ok-term.ensures) (test_of c.args.locals.now c.args.depth c.comparison-operator.result c.in_ok-left.left c.in_ok-right.right c.comparison-operator.ensures c.in_ok-left.ensures c.in_ok-right.ensures)
