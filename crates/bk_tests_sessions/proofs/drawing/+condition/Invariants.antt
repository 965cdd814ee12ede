use Rattle.bk_tests_sessions.proofs.drawing.+condition.Given as goal

abbrev pub decreases-condition : goal.decreases-condition
decreases-condition l = l.depth
