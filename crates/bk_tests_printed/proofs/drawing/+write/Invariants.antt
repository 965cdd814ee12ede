use Rattle.bk_tests_printed.proofs.drawing.+write.Given as goal

abbrev pub decreases-write : goal.decreases-write
decreases-write l = l.depth
