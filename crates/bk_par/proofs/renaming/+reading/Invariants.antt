use Rattle.std.proofs.Common.{◌+◌, ◌*◌}
use Rattle.bk_gsl.specs.SubSize.{substitution_size}
use Rattle.bk_par.proofs.renaming.+reading.Given as goal

abbrev pub decreases-reading : goal.decreases-reading
decreases-reading l = 2 * substitution_size l.sub.now

abbrev pub decreases-reading_guarded : goal.decreases-reading_guarded
decreases-reading_guarded l = 2 * substitution_size l.body.now + 1

abbrev pub decreases-reading_both : goal.decreases-reading_both
decreases-reading_both l = 2 * (substitution_size l.first.now + substitution_size l.second.now) + 1
