use Rattle.std.proofs.Common.{◌≡◌, drop}
use Rattle.bk_raw.specs.Errors.Blame.{blame, earlier}
use Rattle.bk_elab_terms.specs.Shown.{told}
use Rattle.bk_statics.specs.ClauseFaults.{set_faults}
use Rattle.bk_scope.specs.Shown.{refs}
use Rattle.bk_check_clauses.proofs.clause_fault.set_fault.Given as goal

abbrev pub invariant-loop-set : goal.invariant-loop-set
invariant-loop-set l = earlier (told l.fault) (blame (set_faults (refs (drop l.set-index l.sets)))) ≡ blame (set_faults (refs l.sets))
