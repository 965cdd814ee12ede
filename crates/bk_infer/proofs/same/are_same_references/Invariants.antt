use Rattle.std.proofs.Common.{◌≡◌, take}
use Rattle.bk_scope.specs.Shown.{refs}
use Rattle.bk_infer.proofs.same.are_same_references.Given as goal

abbrev pub invariant-loop-index : goal.invariant-loop-index
invariant-loop-index l = refs (take l.index l.left) ≡ refs (take l.index l.right)
