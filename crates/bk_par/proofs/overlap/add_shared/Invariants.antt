use Rattle.std.proofs.Common.{◌≡◌, ◌++◌, drop}
use Rattle.bk_par.specs.Overlaps.{shared}
use Rattle.bk_par.proofs.overlap.add_shared.Given as goal

abbrev pub invariant-loop-variable : goal.invariant-loop-variable
invariant-loop-variable l = l.found.items ++ shared (drop l.variable-index l.first) l.second ≡ l.initial.found.items ++ shared l.first l.second
