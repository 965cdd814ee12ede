use Rattle.std.proofs.Common.{◌≡◌, ◌+◌, ◌*◌, drop}
use Rattle.bk_raw.specs.Trees.FreeNames.{is_free_in_some, is_free_in_ranges}
use Rattle.bk_raw.specs.Trees.RawTree.{tree_size, trees_size, ranges_size, trees_of}
use Rattle.bk_raw.specs.Codes.RawView.{ranges_of}
use Rattle.bk_elab_terms.proofs.written.+free.Given as goal

abbrev pub decreases-stands_free : goal.decreases-stands_free
decreases-stands_free l = 2 * tree_size l.term.now

abbrev pub decreases-stands_free_in_one : goal.decreases-stands_free_in_one
decreases-stands_free_in_one l = 2 * trees_size (trees_of l.terms.now) + 1

abbrev pub decreases-stands_free_in_ranges : goal.decreases-stands_free_in_ranges
decreases-stands_free_in_ranges l = 2 * ranges_size (ranges_of l.ranges.now) + 1

-- it stands free in one of those that are left, or in none
abbrev pub invariant-stands_free_in_one-loop-term : goal.invariant-stands_free_in_one-loop-term
invariant-stands_free_in_one-loop-term l = is_free_in_some l.text (trees_of (drop l.term-index l.terms)) ≡ is_free_in_some l.text (trees_of l.terms)

abbrev pub invariant-stands_free_in_ranges-loop-range : goal.invariant-stands_free_in_ranges-loop-range
invariant-stands_free_in_ranges-loop-range l = is_free_in_ranges l.text (ranges_of (drop l.range-index l.ranges)) ≡ is_free_in_ranges l.text (ranges_of l.ranges)
