use Rattle.std.proofs.Common.{Some, map, take, ◌≡◌}
use Rattle.bk_scope.specs.Shown.{above_shown}
use Rattle.bk_scope.proofs.above.Above.types.Given as goal

abbrev pub invariant-loop-number : goal.invariant-loop-number
invariant-loop-number l = l.types.items ≡ map (λ v. Some v.of_type) (take l.number (above_shown l.self).table.variables)
