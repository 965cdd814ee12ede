use Rattle.std.proofs.Common.{◌≡◌, ◌+◌, ◌*◌, ◌++◌, suc, drop}
use Rattle.bk_raw.specs.Meaning.Names.{count_locals}
use Rattle.bk_raw.specs.Meaning.Printed.{printed_ranges, wrong_ranges}
use Rattle.bk_raw.specs.Trees.RawTree.{tree_size, trees_size, ranges_size, trees_of}
use Rattle.bk_raw.specs.Codes.RawView.{ranges_of}
use Rattle.bk_raw.specs.Meaning.TermReading.{extension_reading, range_reads}
use Rattle.bk_raw.specs.Errors.Blame.{blame, earlier}
use Rattle.bk_elab_terms.specs.Shown.{told}
use Rattle.bk_elab_terms.specs.Sights.{around_of, names_of, ranges_as, Stands}
use Rattle.bk_elab_terms.proofs.Elements.{SetSoFar}
use Rattle.bk_elab_terms.proofs.Sizes.{option_size}
use Rattle.bk_elab_terms.proofs.sight.Reader.+reading.Given as goal

abbrev pub decreases-read : goal.decreases-read
decreases-read l = 8 * tree_size l.term.now

abbrev pub decreases-one_part : goal.decreases-one_part
decreases-one_part l = 8 * tree_size l.part.now + 1

abbrev pub decreases-two_parts : goal.decreases-two_parts
decreases-two_parts l = 8 * (tree_size l.left.now + tree_size l.right.now) + 1

abbrev pub decreases-extension : goal.decreases-extension
decreases-extension l = 8 * trees_size (trees_of l.elements.now) + 1

abbrev pub decreases-clues : goal.decreases-clues
decreases-clues l = 8 * tree_size l.term.now + 2

abbrev pub decreases-clue : goal.decreases-clue
decreases-clue l = 8 * tree_size l.term.now + 1

abbrev pub decreases-conjunct : goal.decreases-conjunct
decreases-conjunct l = 8 * tree_size l.term.now + 1

abbrev pub decreases-conjunction : goal.decreases-conjunction
decreases-conjunction l = 8 * tree_size l.term.now + 2

abbrev pub decreases-typed_conjunction : goal.decreases-typed_conjunction
decreases-typed_conjunction l = 8 * tree_size l.term.now + 3

abbrev pub decreases-typed_body : goal.decreases-typed_body
decreases-typed_body l = 8 * tree_size l.body.now + 4

abbrev pub decreases-ranges : goal.decreases-ranges
decreases-ranges l = 8 * tree_size l.term.now + 2

abbrev pub decreases-range : goal.decreases-range
decreases-range l = 8 * tree_size l.term.now + 1

abbrev pub decreases-rest : goal.decreases-rest
decreases-rest l = 8 * tree_size l.term.now + 2

abbrev pub decreases-quantifier : goal.decreases-quantifier
decreases-quantifier l = 8 * tree_size l.body.now + 5

abbrev pub decreases-numbered_quantifier : goal.decreases-numbered_quantifier
decreases-numbered_quantifier l = 8 * tree_size l.body.now + 1

abbrev pub decreases-range_names : goal.decreases-range_names
decreases-range_names l = 8 * tree_size l.body.now + 3

abbrev pub decreases-abstraction : goal.decreases-abstraction
decreases-abstraction l = 8 * (tree_size l.body.now + option_size l.value) + 4

abbrev pub decreases-numbered_ranges : goal.decreases-numbered_ranges
decreases-numbered_ranges l = 8 * ranges_size (ranges_of l.ranges.now) + 1

abbrev pub decreases-numbered_abstraction : goal.decreases-numbered_abstraction
decreases-numbered_abstraction l = 8 * (ranges_size (ranges_of l.ranges.now) + (tree_size l.body.now + option_size l.value)) + 3

abbrev pub invariant-extension-loop-element : goal.invariant-extension-loop-element
invariant-extension-loop-element l = record {
  set : SetSoFar (around_of l.fn.self).max (names_of l.fn.self) l.at l.set (drop l.element-index l.others) (extension_reading (around_of l.fn.self).max (names_of l.fn.self) l.at (trees_of l.elements));
  stands : Stands l.fn.self l.self;
}

-- the ranges so far and those that are left are all, and so are their faults
abbrev pub invariant-numbered_ranges-loop-index : goal.invariant-numbered_ranges-loop-index
invariant-numbered_ranges-loop-index l = record {
  ranges : ranges_as l.found.names.items ++ printed_ranges (range_reads (around_of l.fn.self).max (names_of l.fn.self) (ranges_of (drop l.index l.ranges))) ≡ printed_ranges (range_reads (around_of l.fn.self).max (names_of l.fn.self) (ranges_of l.ranges));
  faults : earlier (told l.found.fault) (blame (wrong_ranges (suc (count_locals (names_of l.fn.self) + l.index)) (range_reads (around_of l.fn.self).max (names_of l.fn.self) (ranges_of (drop l.index l.ranges))))) ≡ blame (wrong_ranges (suc (count_locals (names_of l.fn.self))) (range_reads (around_of l.fn.self).max (names_of l.fn.self) (ranges_of l.ranges)));
  stands : Stands l.fn.self l.self;
}
