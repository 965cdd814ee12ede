use Rattle.std.proofs.Common.{◌≡◌, ◌+◌, ◌*◌, drop}
use Rattle.bk_raw.specs.Trees.RawTree.{tree_size, trees_size, trees_of}
use Rattle.bk_elab_terms.specs.Kept.{some_have_additions}
use Rattle.bk_elab_terms.proofs.dollar.+additions.Given as goal

abbrev pub decreases-has_additions : goal.decreases-has_additions
decreases-has_additions l = 2 * tree_size l.term.now

abbrev pub decreases-one_has_additions : goal.decreases-one_has_additions
decreases-one_has_additions l = 2 * trees_size (trees_of l.terms.now) + 1

abbrev pub invariant-one_has_additions-loop-term : goal.invariant-one_has_additions-loop-term
invariant-one_has_additions-loop-term l = some_have_additions l.dollar (trees_of (drop l.term-index l.terms)) ≡ some_have_additions l.dollar (trees_of l.terms)
