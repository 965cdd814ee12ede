use Rattle.std.proofs.Common.{length}
use Rattle.bk_tests_auto.proofs.typed.+are_within.Given as goal

abbrev pub decreases-are_within : goal.decreases-are_within
decreases-are_within l = length l.forms.now
