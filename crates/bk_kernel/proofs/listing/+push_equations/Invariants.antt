use Rattle.std.proofs.Common.{length}
use Rattle.bk_kernel.proofs.listing.+push_equations.Given as goal

abbrev pub decreases-push_equations : goal.decreases-push_equations
decreases-push_equations l = length l.forms.now
