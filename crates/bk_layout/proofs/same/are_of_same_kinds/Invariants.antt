use Rattle.std.proofs.Common.{◌≡◌, take}
use Rattle.bk_layout.specs.Laid.{kinds}
use Rattle.bk_layout.proofs.same.are_of_same_kinds.Given as goal

abbrev pub invariant-loop-index : goal.invariant-loop-index
invariant-loop-index l = kinds (take l.index l.other) ≡ kinds (take l.index l.one)
