use Rattle.std.proofs.Common.{arith}
use Rattle.bk_bind.proofs.Replaced.{map_step}
use Rattle.bk_bind.proofs.closing.+closing.Goals as goal

pub all_bound_together-loop-form-preserved : goal.all_bound_together-loop-form-preserved
all_bound_together-loop-form-preserved t c =
    map_step _ _ _ _ _ _ _ c.loop-form.invariant c.form-item.is (omega arith) c.in_ok-bound_together.ensures c.in_ok-push.ensures.items
