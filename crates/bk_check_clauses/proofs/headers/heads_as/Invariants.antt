use Rattle.std.proofs.Common.{◌≡◌, drop}
use Rattle.bk_statics.specs.OperationFaults.{heads_as}
use Rattle.bk_scope.specs.Shown.{above_shown}
use Rattle.bk_check_clauses.proofs.headers.heads_as.Given as goal

abbrev pub invariant-loop-index : goal.invariant-loop-index
invariant-loop-index l = heads_as (above_shown l.above) l.index (drop l.index l.heads) l.operation ≡ heads_as (above_shown l.above) 0 l.heads l.operation
