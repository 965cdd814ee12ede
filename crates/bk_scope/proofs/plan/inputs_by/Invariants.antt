use Rattle.std.proofs.Common.{◌≡◌, ◌++◌, drop}
use Rattle.bk_elab_terms.specs.Visible.{visible_names}
use Rattle.bk_statics.specs.Plan.{inputs_by}
use Rattle.bk_scope.proofs.plan.inputs_by.Given as goal

abbrev pub invariant-loop-input : goal.invariant-loop-input
invariant-loop-input l = visible_names l.found.items ++ inputs_by l.far (visible_names l.machine) (drop l.input-index l.inputs) ≡ inputs_by l.far (visible_names l.machine) l.inputs
