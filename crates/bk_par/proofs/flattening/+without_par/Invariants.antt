use Rattle.std.proofs.Common.{◌+◌, ◌*◌}
use Rattle.bk_gsl.specs.SubSize.{substitution_size}
use Rattle.bk_par.proofs.flattening.+without_par.Given as goal

abbrev pub decreases-without_par : goal.decreases-without_par
decreases-without_par l = 2 * substitution_size l.sub.now

abbrev pub decreases-both_without_par : goal.decreases-both_without_par
decreases-both_without_par l = 2 * (substitution_size l.one.now + substitution_size l.other.now) + 1
