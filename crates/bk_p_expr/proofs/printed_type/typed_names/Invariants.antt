use Rattle.std.proofs.Common.{length}
use Rattle.bk_p_expr.proofs.Lists.{BoundsSoFar}
use Rattle.bk_p_expr.proofs.printed_type.typed_names.Given as goal

abbrev pub invariant-loop-all : goal.invariant-loop-all
invariant-loop-all l = BoundsSoFar l.tokens l.all.items l.rest

abbrev pub decreases-loop-all : goal.decreases-loop-all
decreases-loop-all l = length l.rest
