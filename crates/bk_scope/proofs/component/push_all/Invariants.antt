use Rattle.std.proofs.Common.{drop, map, ◌++◌, ◌≡◌}
use Rattle.bk_scope.proofs.component.push_all.Given as goal

abbrev pub invariant-loop-item : goal.invariant-loop-item
invariant-loop-item g l = map (λ x. x.now) l.found.items ++ drop l.item-index l.items ≡ map (λ x. x.now) l.fn.found.items ++ l.items
