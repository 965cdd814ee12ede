use Rattle.std.proofs.Common.{◌≡◌, ◌+◌, drop}
use Rattle.bk_raw.specs.Errors.Blame.{blame, earlier}
use Rattle.bk_elab_terms.specs.Shown.{told}
use Rattle.bk_elab_terms.specs.Visible.{typing_of}
use Rattle.bk_statics.specs.ClauseFaults.{constant_faults}
use Rattle.bk_scope.specs.Shown.{refs}
use Rattle.bk_check_clauses.proofs.clause_fault.constant_fault.Given as goal

abbrev pub invariant-loop-index : goal.invariant-loop-index
invariant-loop-index l = earlier (told l.fault) (blame (constant_faults (typing_of l.typing.types.now) (l.first + l.index) (refs (drop l.index l.constants)))) ≡ blame (constant_faults (typing_of l.typing.types.now) l.first (refs l.constants))
