use Rattle.std.proofs.Common.{arith}
use Rattle.bk_bind.proofs.Replaced.{map_step}
use Rattle.bk_bind.proofs.opening.+build.Goals as goal

pub build_all-loop-form-preserved : goal.build_all-loop-form-preserved
build_all-loop-form-preserved t c =
    map_step _ _ _ _ _ _ _ c.loop-form.invariant c.form-item.is (omega arith) c.in_ok-build.ensures c.in_ok-push.ensures.items
