use Rattle.std.proofs.Common.{◌≡◌, drop}
use Rattle.bk_raw.specs.Errors.Blame.{blame, earlier}
use Rattle.bk_elab_terms.specs.Shown.{told}
use Rattle.bk_statics.specs.NameFaults.{header_twice}
use Rattle.bk_scope.specs.Shown.{refs}
use Rattle.bk_check_clauses.proofs.name_fault.headers_fault.Given as goal

abbrev pub invariant-loop-operation : goal.invariant-loop-operation
invariant-loop-operation l = earlier (told l.fault) (blame (header_twice (refs (drop l.operation-index l.operations)))) ≡ blame (header_twice (refs l.operations))
