use Rattle.std.proofs.Common.{◌≡◌, ◌+◌, ◌≤◌, [], drop, length}
use Rattle.bk_elab_terms.specs.Visible.{visible_names}
use Rattle.bk_form.specs.Role.{bind}
use Rattle.bk_scope.specs.Shown.{numbered_texts}
use Rattle.bk_scope.proofs.sight.bound_texts.Given as goal

abbrev pub invariant-loop-index : goal.invariant-loop-index
invariant-loop-index l = record {
  names : visible_names l.names.items ≡ bind (numbered_texts (l.first + l.index) (drop l.index l.bound)) [];
  within : l.index ≤ length l.bound;
}

abbrev pub decreases-loop-index : goal.decreases-loop-index
decreases-loop-index l = l.index
