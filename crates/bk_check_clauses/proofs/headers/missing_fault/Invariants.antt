use Rattle.std.proofs.Common.{◌≡◌, drop}
use Rattle.bk_raw.specs.Errors.Blame.{blame, earlier}
use Rattle.bk_elab_terms.specs.Shown.{told}
use Rattle.bk_statics.specs.Binders.{texts}
use Rattle.bk_statics.specs.Components.{operation_names}
use Rattle.bk_statics.specs.OperationFaults.{missing_faults}
use Rattle.bk_scope.specs.Shown.{refs}
use Rattle.bk_check_clauses.proofs.headers.missing_fault.Given as goal

abbrev pub invariant-loop-head : goal.invariant-loop-head
invariant-loop-head l = earlier (told l.fault) (blame (missing_faults l.component.at (texts (operation_names (refs l.component.operations.items))) (drop l.head-index l.heads))) ≡ blame (missing_faults l.component.at (texts (operation_names (refs l.component.operations.items))) l.heads)
