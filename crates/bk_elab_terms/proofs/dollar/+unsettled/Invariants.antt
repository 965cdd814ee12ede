use Rattle.std.proofs.Common.{◌≡◌, ◌+◌, ◌*◌, drop}
use Rattle.bk_raw.specs.Trees.RawTree.{tree_size, trees_size, ranges_size, trees_of}
use Rattle.bk_raw.specs.Codes.RawView.{ranges_of}
use Rattle.bk_elab_terms.specs.Kept.{some_have_unsettled, ranges_have_unsettled}
use Rattle.bk_elab_terms.proofs.dollar.+unsettled.Given as goal

abbrev pub decreases-has_unsettled : goal.decreases-has_unsettled
decreases-has_unsettled l = 2 * tree_size l.term.now

abbrev pub decreases-one_has_unsettled : goal.decreases-one_has_unsettled
decreases-one_has_unsettled l = 2 * trees_size (trees_of l.terms.now) + 1

abbrev pub decreases-range_has_unsettled : goal.decreases-range_has_unsettled
decreases-range_has_unsettled l = 2 * ranges_size (ranges_of l.ranges.now) + 1

abbrev pub invariant-one_has_unsettled-loop-term : goal.invariant-one_has_unsettled-loop-term
invariant-one_has_unsettled-loop-term l = some_have_unsettled l.first l.count l.dollar (trees_of (drop l.term-index l.terms)) ≡ some_have_unsettled l.first l.count l.dollar (trees_of l.terms)

abbrev pub invariant-range_has_unsettled-loop-range : goal.invariant-range_has_unsettled-loop-range
invariant-range_has_unsettled-loop-range l = ranges_have_unsettled l.first l.count l.dollar (ranges_of (drop l.range-index l.ranges)) ≡ ranges_have_unsettled l.first l.count l.dollar (ranges_of l.ranges)
