use Rattle.std.proofs.Common.{drop}
use Rattle.bk_po.proofs.FlatEntries.{BodiesLeft}
use Rattle.bk_po.proofs.flattening.flat_bodies.Given as goal

abbrev pub invariant-loop-body : goal.invariant-loop-body
invariant-loop-body l = BodiesLeft l.initial.table l.table l.list.items l.bodies (drop l.body-index l.bodies)
