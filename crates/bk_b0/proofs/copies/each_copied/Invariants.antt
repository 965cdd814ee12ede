use Rattle.std.proofs.Common.{◌≡◌, take}
use Rattle.bk_b0.proofs.copies.each_copied.Given as goal

abbrev pub invariant-loop-body : goal.invariant-loop-body
invariant-loop-body l = l.copies.items ≡ take l.body-index l.bodies
