use Rattle.std.proofs.Common.{◌≡◌, drop}
use Rattle.bk_raw.specs.Meaning.Binders.{is_text}
use Rattle.bk_statics.specs.NameFaults.{level_texts}
use Rattle.bk_check_clauses.proofs.name_fault.is_level.Given as goal

abbrev pub invariant-loop-level : goal.invariant-loop-level
invariant-loop-level l = is_text (level_texts (drop l.level-index l.levels)) l.text ≡ is_text (level_texts l.levels) l.text
