use Rattle.bk_tests_sessions.proofs.drawing.+statement.Given as goal

abbrev pub decreases-statement : goal.decreases-statement
decreases-statement l = l.depth
