use Rattle.bk_tests_transformers.proofs.growth.+repeated.Given as goal

abbrev pub decreases-repeated : goal.decreases-repeated
decreases-repeated l = l.times
