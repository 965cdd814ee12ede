use Rattle.std.proofs.Common.{◌≡◌, ◌+◌, ◌*◌, drop}
use Rattle.bk_raw.specs.Trees.RawTree.{tree_size, trees_size, ranges_size, trees_of}
use Rattle.bk_raw.specs.Codes.RawView.{ranges_of}
use Rattle.bk_raw.specs.Meaning.TermReading.{all_stricts, ranges_stricts}
use Rattle.bk_raw.specs.Errors.Blame.{blame, earlier}
use Rattle.bk_elab_terms.specs.Shown.{told}
use Rattle.bk_elab_terms.proofs.written.+strict.Given as goal

abbrev pub decreases-first_strict : goal.decreases-first_strict
decreases-first_strict l = 2 * tree_size l.term.now

abbrev pub decreases-first_strict_of : goal.decreases-first_strict_of
decreases-first_strict_of l = 2 * trees_size (trees_of l.terms.now) + 1

abbrev pub decreases-first_strict_in : goal.decreases-first_strict_in
decreases-first_strict_in l = 2 * ranges_size (ranges_of l.ranges.now) + 1

-- what is told so far and that of those that are left is that of all
abbrev pub invariant-first_strict_of-loop-term : goal.invariant-first_strict_of-loop-term
invariant-first_strict_of-loop-term l = earlier (told l.fault) (blame (all_stricts (trees_of (drop l.term-index l.terms)))) ≡ blame (all_stricts (trees_of l.terms))

abbrev pub invariant-first_strict_in-loop-range : goal.invariant-first_strict_in-loop-range
invariant-first_strict_in-loop-range l = earlier (told l.fault) (blame (ranges_stricts (ranges_of (drop l.range-index l.ranges)))) ≡ blame (ranges_stricts (ranges_of l.ranges))
