use Rattle.std.proofs.Common.{◌≡◌, drop}
use Rattle.bk_raw.specs.Errors.Blame.{blame, earlier}
use Rattle.bk_elab_terms.specs.Shown.{told}
use Rattle.bk_elab_terms.specs.Visible.{visible_names}
use Rattle.bk_statics.specs.ValueFaults.{without_size}
use Rattle.bk_scope.specs.Shown.{above_shown, refs}
use Rattle.bk_check_clauses.proofs.values.missing_size.Given as goal

abbrev pub invariant-loop-set : goal.invariant-loop-set
invariant-loop-set l = earlier (told l.fault) (blame (without_size l.component.name.now.at (visible_names l.globals) (refs l.component.values.items) l.set (drop l.set (above_shown l.above).table.sets))) ≡ blame (without_size l.component.name.now.at (visible_names l.globals) (refs l.component.values.items) 0 (above_shown l.above).table.sets)
