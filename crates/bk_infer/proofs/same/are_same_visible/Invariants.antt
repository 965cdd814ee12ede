use Rattle.std.proofs.Common.{◌≡◌, take}
use Rattle.bk_elab_terms.specs.Visible.{visible_names}
use Rattle.bk_infer.proofs.same.are_same_visible.Given as goal

abbrev pub invariant-loop-index : goal.invariant-loop-index
invariant-loop-index l = visible_names (take l.index l.left) ≡ visible_names (take l.index l.right)
