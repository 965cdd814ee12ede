use Rattle.std.proofs.Common.{◌≡◌, ◌+◌, ◌*◌, drop}
use Rattle.bk_raw.specs.Trees.RawTree.{tree_size, trees_size, trees_of}
use Rattle.bk_elab_terms.specs.Kept.{are_hollow}
use Rattle.bk_elab_terms.proofs.shape.+hollow.Given as goal

abbrev pub decreases-is_hollow : goal.decreases-is_hollow
decreases-is_hollow l = 2 * tree_size l.term.now

abbrev pub decreases-are_hollow : goal.decreases-are_hollow
decreases-are_hollow l = 2 * trees_size (trees_of l.terms.now) + 1

abbrev pub invariant-are_hollow-loop-term : goal.invariant-are_hollow-loop-term
invariant-are_hollow-loop-term l = are_hollow (trees_of (drop l.term-index l.terms)) ≡ are_hollow (trees_of l.terms)
