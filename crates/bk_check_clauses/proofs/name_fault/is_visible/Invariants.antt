use Rattle.std.proofs.Common.{◌≡◌, drop}
use Rattle.bk_raw.specs.Meaning.Binders.{is_text}
use Rattle.bk_elab_terms.specs.Visible.{visible_names}
use Rattle.bk_statics.specs.NameFaults.{named_texts}
use Rattle.bk_check_clauses.proofs.name_fault.is_visible.Given as goal

abbrev pub invariant-loop-name : goal.invariant-loop-name
invariant-loop-name l = is_text (named_texts (visible_names (drop l.name-index l.names))) l.text ≡ is_text (named_texts (visible_names l.names)) l.text
