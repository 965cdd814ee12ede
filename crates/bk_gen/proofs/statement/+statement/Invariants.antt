use Rattle.std.proofs.Common.{◌+◌, ◌*◌}
use Rattle.bk_gsl.specs.SubSize.{substitution_size}
use Rattle.bk_gen.proofs.statement.+statement.Given as goal

abbrev pub decreases-add_statement : goal.decreases-add_statement
decreases-add_statement l = 2 * substitution_size l.sub.now

abbrev pub decreases-add_branches : goal.decreases-add_branches
decreases-add_branches l = 2 * (substitution_size l.yes.now + substitution_size l.no.now) + 1

abbrev pub decreases-add_loop : goal.decreases-add_loop
decreases-add_loop l = 2 * substitution_size l.body.now + 1
