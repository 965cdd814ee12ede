use Rattle.std.proofs.Common.{◌≡◌, ◌+◌, ◌*◌, take}
use Rattle.bk_raw.specs.Trees.RawTree.{tree_size, trees_size, trees_of}
use Rattle.bk_infer.proofs.same.+same.Given as goal

abbrev pub decreases-is_same_term : goal.decreases-is_same_term
decreases-is_same_term l = 2 * tree_size l.left.now

abbrev pub decreases-are_same_terms : goal.decreases-are_same_terms
decreases-are_same_terms l = 2 * trees_size (trees_of l.left.now) + 1

abbrev pub invariant-are_same_terms-loop-index : goal.invariant-are_same_terms-loop-index
invariant-are_same_terms-loop-index l = take l.index l.left ≡ take l.index l.right
