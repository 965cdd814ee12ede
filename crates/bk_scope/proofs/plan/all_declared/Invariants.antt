use Rattle.std.proofs.Common.{◌≡◌, ◌++◌, ◌≤◌, length, map, drop, take}
use Rattle.bk_elab_terms.specs.Visible.{visible_names}
use Rattle.bk_statics.specs.Plan.{carried, declared_texts, own}
use Rattle.bk_scope.specs.Shown.{above_shown, declared_shown, variables_shown}
use Rattle.bk_scope.proofs.plan.all_declared.Given as goal

abbrev pub invariant-loop-variable : goal.invariant-loop-variable
invariant-loop-variable l = record {
  found : map declared_shown l.found.items ++ own (declared_texts (carried (above_shown l.above) (visible_names l.upper))) (visible_names l.upper) (variables_shown (drop l.variable-index l.variables)) ≡ carried (above_shown l.above) (visible_names l.upper) ++ own (declared_texts (carried (above_shown l.above) (visible_names l.upper))) (visible_names l.upper) (variables_shown l.variables);
  before : map declared_shown (take l.before l.found.items) ≡ carried (above_shown l.above) (visible_names l.upper);
  within : l.before ≤ length l.found.items;
}
