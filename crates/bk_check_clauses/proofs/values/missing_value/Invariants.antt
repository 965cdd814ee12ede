use Rattle.std.proofs.Common.{◌≡◌, drop}
use Rattle.bk_raw.specs.Errors.Blame.{blame, earlier}
use Rattle.bk_elab_terms.specs.Shown.{told}
use Rattle.bk_elab_terms.specs.Visible.{visible_names}
use Rattle.bk_statics.specs.ValueFaults.{valued, without_value}
use Rattle.bk_scope.specs.Shown.{refs}
use Rattle.bk_check_clauses.proofs.values.missing_value.Given as goal

abbrev pub invariant-loop-name : goal.invariant-loop-name
invariant-loop-name l = earlier (told l.fault) (blame (without_value l.component.name.now.at (valued (visible_names l.globals) (refs l.component.values.items)) (visible_names (drop l.name-index l.globals)))) ≡ blame (without_value l.component.name.now.at (valued (visible_names l.globals) (refs l.component.values.items)) (visible_names l.globals))
