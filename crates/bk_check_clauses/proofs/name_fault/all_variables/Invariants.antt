use Rattle.std.proofs.Common.{◌≡◌, ◌++◌, drop}
use Rattle.bk_elab_terms.specs.Visible.{visible_names}
use Rattle.bk_statics.specs.NameFaults.{named_texts, variable_texts}
use Rattle.bk_scope.specs.Shown.{above_shown}
use Rattle.bk_check_clauses.proofs.name_fault.all_variables.Given as goal

abbrev pub invariant-loop-number : goal.invariant-loop-number
invariant-loop-number l = named_texts (visible_names l.names.items) ++ variable_texts l.number (above_shown l.above) (drop l.number l.levels) ≡ variable_texts 0 (above_shown l.above) l.levels
