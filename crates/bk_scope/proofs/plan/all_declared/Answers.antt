use Rattle.std.proofs.Common.{arith}
use Rattle.bk_elab_terms.specs.Visible.{visible_names}
use Rattle.bk_statics.specs.Plan.{carried}
use Rattle.bk_scope.specs.Shown.{above_shown}
use Rattle.bk_scope.proofs.Planned.{own_found, own_before, own_within}
use Rattle.bk_scope.proofs.plan.all_declared.Goals as goal

pub loop-variable-preserved : goal.loop-variable-preserved
loop-variable-preserved c = record {
  found = own_found (carried (above_shown c.args.above) (visible_names c.args.upper.now)) (visible_names c.args.upper.now) c.args.variables.now c.loop-variable.variable-index c.variable-item.result c.len-before.result c.loop-variable.found.items c.push_own.new.found.items _
      (omega arith) c.variable-item.is c.loop-variable.invariant.before c.loop-variable.invariant.found c.in_ok-push_own.ensures;
  before = own_before _ c.len-before.result c.loop-variable.found.items c.push_own.new.found.items _ c.loop-variable.invariant.within c.loop-variable.invariant.before c.in_ok-push_own.ensures;
  within = own_within c.len-before.result c.loop-variable.found.items c.push_own.new.found.items _ c.loop-variable.invariant.within c.in_ok-push_own.ensures;
}
