use Rattle.std.proofs.Common.{◌≡◌, drop}
use Rattle.bk_elab_terms.specs.Visible.{visible_names}
use Rattle.bk_gsl.specs.State.{among}
use Rattle.bk_statics.specs.ValueFaults.{valued}
use Rattle.bk_scope.specs.Shown.{refs}
use Rattle.bk_check_clauses.proofs.values.is_valued.Given as goal

abbrev pub invariant-loop-entry : goal.invariant-loop-entry
invariant-loop-entry l = among (valued (visible_names l.globals) (refs (drop l.entry-index l.values))) l.constant ≡ among (valued (visible_names l.globals) (refs l.values)) l.constant
