use Rattle.std.proofs.Common.{◌≡◌}
use Rattle.bk_arith.specs.Cases.{literals_from, equations}
use Rattle.bk_arith.proofs.interval.equations_between.Given as goal

abbrev pub invariant-loop-offset : goal.invariant-loop-offset
invariant-loop-offset l = l.list.items ≡ equations l.element (literals_from l.first l.offset)
