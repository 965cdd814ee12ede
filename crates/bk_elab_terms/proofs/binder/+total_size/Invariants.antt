use Rattle.std.proofs.Common.{length}
use Rattle.bk_elab_terms.proofs.binder.+total_size.Given as goal

abbrev pub decreases-total_size : goal.decreases-total_size
decreases-total_size l = length l.forms.now
