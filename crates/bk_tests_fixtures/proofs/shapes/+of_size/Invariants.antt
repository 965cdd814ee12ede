use Rattle.bk_tests_fixtures.proofs.shapes.+of_size.Given as goal

abbrev pub decreases-of_size : goal.decreases-of_size
decreases-of_size l = l.nodes
