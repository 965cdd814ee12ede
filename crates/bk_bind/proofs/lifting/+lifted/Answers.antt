use Rattle.std.proofs.Common.{arith}
use Rattle.bk_bind.proofs.Replaced.{map_step}
use Rattle.bk_bind.proofs.lifting.+lifted.Goals as goal

pub all_lifted-loop-form-preserved : goal.all_lifted-loop-form-preserved
all_lifted-loop-form-preserved t c =
    map_step _ _ _ _ _ _ _ c.loop-form.invariant c.form-item.is (omega arith) c.in_ok-lifted.ensures c.in_ok-push.ensures.items
