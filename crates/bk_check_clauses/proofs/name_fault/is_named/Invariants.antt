use Rattle.std.proofs.Common.{◌≡◌, drop}
use Rattle.bk_raw.specs.Meaning.Binders.{is_text}
use Rattle.bk_statics.specs.Binders.{texts}
use Rattle.bk_statics.specs.Components.{operation_names}
use Rattle.bk_scope.specs.Shown.{refs}
use Rattle.bk_check_clauses.proofs.name_fault.is_named.Given as goal

abbrev pub invariant-loop-operation : goal.invariant-loop-operation
invariant-loop-operation l = is_text (texts (operation_names (refs (drop l.operation-index l.operations)))) l.text ≡ is_text (texts (operation_names (refs l.operations))) l.text
