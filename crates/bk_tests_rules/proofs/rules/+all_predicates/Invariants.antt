use Rattle.std.proofs.Common.{length}
use Rattle.bk_tests_rules.proofs.rules.+all_predicates.Given as goal

abbrev pub decreases-all_predicates : goal.decreases-all_predicates
decreases-all_predicates l = length l.forms.now
