use Rattle.bk_gsl.specs.SubSize.{substitution_size}
use Rattle.bk_tests_sessions.proofs.runs.+run.Given as goal

abbrev pub decreases-run : goal.decreases-run
decreases-run l = substitution_size l.sub.now
