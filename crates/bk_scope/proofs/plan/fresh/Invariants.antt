use Rattle.std.proofs.Common.{◌≡◌, ◌++◌, drop}
use Rattle.bk_elab_terms.specs.Visible.{visible_names}
use Rattle.bk_statics.specs.Plan.{fresh}
use Rattle.bk_scope.specs.Shown.{refs, variables_shown}
use Rattle.bk_scope.proofs.plan.fresh.Given as goal

abbrev pub invariant-loop-variable : goal.invariant-loop-variable
invariant-loop-variable l = refs l.found.items ++ fresh (visible_names l.upper) (variables_shown (drop l.variable-index l.variables)) ≡ fresh (visible_names l.upper) (variables_shown l.variables)
