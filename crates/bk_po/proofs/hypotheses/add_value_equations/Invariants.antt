use Rattle.std.proofs.Common.{◌≡◌, ◌++◌, drop, map}
use Rattle.bk_dev.specs.Hypotheses.{value_equation}
use Rattle.bk_po.proofs.hypotheses.add_value_equations.Given as goal

abbrev pub invariant-loop-constant : goal.invariant-loop-constant
invariant-loop-constant l = l.hyps.items ++ map value_equation (drop l.constant-index l.values) ≡ l.initial.hyps.items ++ map value_equation l.values
