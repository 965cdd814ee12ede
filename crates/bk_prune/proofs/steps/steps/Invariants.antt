use Rattle.bk_form.specs.Each.{Each}
use Rattle.bk_kernel.specs.Standing.{in_order}
use Rattle.bk_status.specs.Replayable.{IsReplayable}
use Rattle.bk_prune.proofs.steps.steps.Given as goal

abbrev pub invariant-loop-rule : goal.invariant-loop-rule
invariant-loop-rule l = Each (IsReplayable l.types) (in_order l.open.items)
