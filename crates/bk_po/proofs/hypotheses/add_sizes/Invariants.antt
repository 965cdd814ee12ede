use Rattle.std.proofs.Common.{◌≡◌, ◌++◌, drop}
use Rattle.bk_dev.specs.Hypotheses.{size_equations_from}
use Rattle.bk_po.proofs.hypotheses.add_sizes.Given as goal

abbrev pub invariant-loop-number : goal.invariant-loop-number
invariant-loop-number l = l.hyps.items ++ size_equations_from l.number (drop l.number l.sets) ≡ l.initial.hyps.items ++ size_equations_from 0 l.sets
