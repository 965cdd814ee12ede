use Rattle.std.proofs.Common.{◌≡◌, ◌+◌, ◌*◌, take}
use Rattle.bk_raw.specs.Trees.RawTree.{trees_of, tree_size, trees_size, ranges_size}
use Rattle.bk_raw.specs.Codes.RawView.{ranges_of}
use Rattle.bk_p_expr.specs.Conjuncts.{free_names_of, free_names_of_ranges}
use Rattle.bk_p_expr.proofs.free.+free.Given as goal

abbrev pub decreases-free_names : goal.decreases-free_names
decreases-free_names l = 2 * tree_size l.term.now

abbrev pub decreases-free_names_of : goal.decreases-free_names_of
decreases-free_names_of l = 2 * trees_size (trees_of l.terms.now) + 1

abbrev pub decreases-free_names_of_ranges : goal.decreases-free_names_of_ranges
decreases-free_names_of_ranges l = 2 * ranges_size (ranges_of l.ranges.now) + 1

abbrev pub invariant-free_names_of-loop-term : goal.invariant-free_names_of-loop-term
invariant-free_names_of-loop-term l = l.all.items ≡ free_names_of (trees_of (take l.term-index l.terms))

abbrev pub invariant-free_names_of_ranges-loop-range : goal.invariant-free_names_of_ranges-loop-range
invariant-free_names_of_ranges-loop-range l = l.all.items ≡ free_names_of_ranges (ranges_of (take l.range-index l.ranges))
