use Rattle.std.proofs.Common.{◌≡◌, drop}
use Rattle.bk_raw.specs.Errors.Blame.{blame, earlier}
use Rattle.bk_elab_terms.specs.Shown.{told}
use Rattle.bk_elab_terms.specs.Visible.{typing_of, visible_names}
use Rattle.bk_statics.specs.ClauseFaults.{all_stated_faults}
use Rattle.bk_scope.specs.Shown.{refs}
use Rattle.bk_check_clauses.proofs.clause_fault.all_stated_fault.Given as goal

abbrev pub invariant-loop-predicate : goal.invariant-loop-predicate
invariant-loop-predicate l = earlier (told l.fault) (blame (all_stated_faults l.typing.max (typing_of l.typing.types.now) (visible_names l.names) (refs (drop l.predicate-index l.predicates)))) ≡ blame (all_stated_faults l.typing.max (typing_of l.typing.types.now) (visible_names l.names) (refs l.predicates))
