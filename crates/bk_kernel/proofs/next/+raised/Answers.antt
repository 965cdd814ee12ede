use Rattle.std.proofs.Common.{arith}
use Rattle.bk_bind.proofs.Replaced.{map_step}
use Rattle.bk_kernel.proofs.next.+raised.Goals as goal

pub all_raised-loop-form-preserved : goal.all_raised-loop-form-preserved
all_raised-loop-form-preserved t c =
    map_step _ _ _ _ _ _ _ c.loop-form.invariant c.form-item.is (omega arith) c.in_ok-raised_in.ensures c.in_ok-push.ensures.items
