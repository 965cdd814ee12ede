use Rattle.bk_raw.specs.Trees.RawTree.{tree_size}
use Rattle.bk_elab_terms.proofs.shape.+is_domain.Given as goal

abbrev pub decreases-is_domain : goal.decreases-is_domain
decreases-is_domain l = tree_size l.term.now
