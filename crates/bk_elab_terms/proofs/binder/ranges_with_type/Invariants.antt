use Rattle.bk_elab_terms.proofs.Taken.{TakenSoFar}
use Rattle.bk_elab_terms.proofs.binder.ranges_with_type.Given as goal

abbrev pub invariant-loop-name : goal.invariant-loop-name
invariant-loop-name l = TakenSoFar l.ranges.items l.tuple l.names l.name-index
