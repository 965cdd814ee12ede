use Rattle.std.proofs.Common.{arith, rules}
use Rattle.bk_elab_terms.specs.Visible.{visible_names}
use Rattle.bk_scope.specs.Shown.{above_shown}
use Rattle.bk_scope.proofs.StandsAbove.{sets_step}
use Rattle.bk_scope.proofs.above.Above.globals.Goals as goal

pub loop-set-preserved : goal.loop-set-preserved
loop-set-preserved c =
    sets_step c.loop-set.set (above_shown c.args.self.now).table.sets (visible_names c.loop-set.names.items) (visible_names c.push_set.new.names.items) _
    (omega arith) c.loop-set.invariant (search rules)
