use Rattle.std.proofs.Common.{◌≡◌, ◌++◌, drop}
use Rattle.bk_dev.specs.Layout.{operation_variables}
use Rattle.bk_b0.proofs.cells.add_parameters.Given as goal

abbrev pub invariant-loop-number : goal.invariant-loop-number
invariant-loop-number l = l.variables.items ++ operation_variables (drop l.number l.heads) (drop l.number l.bodies) ≡ l.initial.variables.items ++ operation_variables l.heads l.bodies
