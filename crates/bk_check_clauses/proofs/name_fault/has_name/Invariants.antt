use Rattle.std.proofs.Common.{◌≡◌, drop}
use Rattle.bk_raw.specs.Meaning.Binders.{is_text}
use Rattle.bk_statics.specs.Binders.{texts}
use Rattle.bk_check_clauses.proofs.name_fault.has_name.Given as goal

abbrev pub invariant-loop-name : goal.invariant-loop-name
invariant-loop-name l = is_text (texts (drop l.name-index l.names)) l.text ≡ is_text (texts l.names) l.text
