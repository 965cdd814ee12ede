use Rattle.std.proofs.Common.{◌≡◌, drop}
use Rattle.bk_raw.specs.Errors.Blame.{blame, earlier}
use Rattle.bk_elab_terms.specs.Shown.{told}
use Rattle.bk_elab_terms.specs.Visible.{visible_names}
use Rattle.bk_statics.specs.NameFaults.{named_texts, taken}
use Rattle.bk_scope.specs.Shown.{refs}
use Rattle.bk_check_clauses.proofs.name_fault.taken_constants.Given as goal

abbrev pub invariant-loop-constant : goal.invariant-loop-constant
invariant-loop-constant l = earlier (told l.fault) (blame (taken (named_texts (visible_names l.names)) (refs (drop l.constant-index l.constants)))) ≡ blame (taken (named_texts (visible_names l.names)) (refs l.constants))
