use Rattle.std.proofs.Common.{◌≡◌, drop}
use Rattle.bk_raw.specs.Errors.Blame.{blame, earlier}
use Rattle.bk_elab_terms.specs.Shown.{told}
use Rattle.bk_elab_terms.specs.Visible.{typing_of, visible_names}
use Rattle.bk_statics.specs.ClauseFaults.{entry_faults}
use Rattle.bk_scope.specs.Shown.{refs}
use Rattle.bk_check_clauses.proofs.clause_fault.entry_fault.Given as goal

abbrev pub invariant-loop-entry : goal.invariant-loop-entry
invariant-loop-entry l = earlier (told l.fault) (blame (entry_faults l.typing.max (typing_of l.typing.types.now) (visible_names l.globals) (refs (drop l.entry-index l.values)))) ≡ blame (entry_faults l.typing.max (typing_of l.typing.types.now) (visible_names l.globals) (refs l.values))
