use Rattle.bk_tests_sessions.proofs.drawing.+number.Given as goal

abbrev pub decreases-number : goal.decreases-number
decreases-number l = l.depth
