use Rattle.std.proofs.Common.{◌≡◌, map, drop}
use Rattle.bk_raw.specs.Errors.Blame.{blame, earlier}
use Rattle.bk_elab_terms.specs.Shown.{told}
use Rattle.bk_statics.specs.Executable.{operations_executable}
use Rattle.bk_check_b0.specs.Executed.{executing}
use Rattle.bk_scope.specs.Shown.{placed_shown, plan_shown}
use Rattle.bk_check_b0.proofs.executable.operations_fault.Given as goal

abbrev pub invariant-loop-placed : goal.invariant-loop-placed
invariant-loop-placed l = earlier (told l.fault) (blame (operations_executable (executing l.typing l.arrays) (plan_shown l.plan) (map placed_shown (drop l.placed-index l.plan.operations.items)))) ≡ blame (operations_executable (executing l.typing l.arrays) (plan_shown l.plan) (map placed_shown l.plan.operations.items))
