use Rattle.bk_image.specs.Progress.{progress, IsSettled}
use Rattle.bk_image.proofs.depths.Depths.open.Given as goal

abbrev pub invariant-loop-at : goal.invariant-loop-at
invariant-loop-at l = IsSettled l.image l.at (progress l.self)
