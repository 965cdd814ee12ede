use Rattle.std.proofs.Common.{◌≡◌, drop}
use Rattle.bk_raw.specs.Errors.Blame.{blame, earlier}
use Rattle.bk_elab_terms.specs.Shown.{told}
use Rattle.bk_statics.specs.OperationFaults.{header_faults}
use Rattle.bk_scope.specs.Shown.{above_shown, refs}
use Rattle.bk_check_clauses.proofs.headers.lower_fault.Given as goal

abbrev pub invariant-loop-operation : goal.invariant-loop-operation
invariant-loop-operation l = earlier (told l.fault) (blame (header_faults (above_shown l.above) (refs (drop l.operation-index l.operation-items)))) ≡ blame (header_faults (above_shown l.above) (refs l.operation-items))
