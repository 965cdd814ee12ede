use Rattle.std.proofs.Common.{length}
use Rattle.bk_tests_auto.proofs.typed.+are_predicates.Given as goal

abbrev pub decreases-are_predicates : goal.decreases-are_predicates
decreases-are_predicates l = length l.forms.now
