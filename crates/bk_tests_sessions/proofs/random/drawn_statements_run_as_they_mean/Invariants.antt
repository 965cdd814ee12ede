use Rattle.std.proofs.Common.{◌≤◌, ◌*◌}
use Rattle.bk_tests_sessions.proofs.random.drawn_statements_run_as_they_mean.Given as goal

abbrev pub invariant-loop-seed : goal.invariant-loop-seed
invariant-loop-seed r l = l.done ≤ 5 * l.seed
