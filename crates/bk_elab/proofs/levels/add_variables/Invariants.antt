use Rattle.std.proofs.Common.{◌≡◌}
use Rattle.bk_elab.specs.Answered.{variables_added, with_variables}
use Rattle.bk_elab.proofs.levels.add_variables.Given as goal

abbrev pub invariant-loop-text : goal.invariant-loop-text
invariant-loop-text l = l.table ≡ with_variables l.fn.table (variables_added l.yielded)
