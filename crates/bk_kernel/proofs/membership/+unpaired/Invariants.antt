use Rattle.bk_kernel.proofs.membership.+unpaired.Given as goal

abbrev pub decreases-unpaired : goal.decreases-unpaired
decreases-unpaired l = l.pairs
