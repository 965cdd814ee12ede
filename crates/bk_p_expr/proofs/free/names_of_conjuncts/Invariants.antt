use Rattle.std.proofs.Common.{◌≡◌, ◌++◌}
use Rattle.std.specs.Vec.Iter.{into_iter_items}
use Rattle.bk_p_expr.specs.Conjuncts.{names_of_conjuncts}
use Rattle.bk_p_expr.proofs.free.names_of_conjuncts.Given as goal

abbrev pub invariant-loop-conjunct : goal.invariant-loop-conjunct
invariant-loop-conjunct l = l.all.items ++ names_of_conjuncts (into_iter_items l.conjunct-iterator) ≡ names_of_conjuncts l.fn.known.items
