use Rattle.std.proofs.Common.{drop, ◌++◌, ◌≡◌}
use Rattle.bk_elab_terms.specs.Visible.{visible_names}
use Rattle.bk_raw.specs.Meaning.ScopeReading.{element_names}
use Rattle.bk_scope.proofs.above.push_elements.Given as goal

abbrev pub invariant-loop-index : goal.invariant-loop-index
invariant-loop-index l = visible_names l.names.items ++ element_names l.set l.index (drop l.index l.elements) ≡ visible_names l.fn.names.items ++ element_names l.set 0 l.elements
