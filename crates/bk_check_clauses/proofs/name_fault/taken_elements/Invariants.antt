use Rattle.std.proofs.Common.{◌≡◌, drop}
use Rattle.bk_raw.specs.Errors.Blame.{blame, earlier}
use Rattle.bk_elab_terms.specs.Shown.{told}
use Rattle.bk_elab_terms.specs.Visible.{visible_names}
use Rattle.bk_statics.specs.NameFaults.{named_texts, taken}
use Rattle.bk_check_clauses.proofs.name_fault.taken_elements.Given as goal

abbrev pub invariant-loop-element : goal.invariant-loop-element
invariant-loop-element l = earlier (told l.fault) (blame (taken (named_texts (visible_names l.names)) (drop l.element-index l.elements))) ≡ blame (taken (named_texts (visible_names l.names)) l.elements)
