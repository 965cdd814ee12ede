use Rattle.std.proofs.Common.{◌≡◌, ◌+◌, drop}
use Rattle.bk_statics.specs.Plan.{sizes}
use Rattle.bk_scope.specs.Shown.{refs}
use Rattle.bk_scope.proofs.plan.sizes.Given as goal

abbrev pub invariant-loop-head : goal.invariant-loop-head
invariant-loop-head l = l.count + sizes (drop l.head-index l.heads) (refs l.operations) ≡ sizes l.heads (refs l.operations)
