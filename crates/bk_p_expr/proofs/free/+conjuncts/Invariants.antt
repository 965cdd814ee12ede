use Rattle.bk_raw.specs.Trees.RawTree.{tree_size}
use Rattle.bk_p_expr.proofs.free.+conjuncts.Given as goal

abbrev pub decreases-conjuncts : goal.decreases-conjuncts
decreases-conjuncts l = tree_size l.term.now
