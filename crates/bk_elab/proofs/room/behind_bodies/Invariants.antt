use Rattle.std.proofs.Common.{◌≡◌, ◌+◌, length, drop}
use Rattle.bk_dev.specs.Flattened.{copied_in_bodies}
use Rattle.bk_elab.proofs.room.behind_bodies.Given as goal

abbrev pub invariant-loop-body : goal.invariant-loop-body
invariant-loop-body l = l.number + length (copied_in_bodies (drop l.body-index l.bodies)) ≡ l.first + length (copied_in_bodies l.bodies)
