use Rattle.std.proofs.Common.{drop, map, ◌++◌, ◌≡◌}
use Rattle.bk_statics.specs.Components.{set_names}
use Rattle.bk_scope.proofs.component.push_sets.Given as goal

abbrev pub invariant-loop-set : goal.invariant-loop-set
invariant-loop-set l = map (λ x. x.now) l.found.items ++ set_names (drop l.set-index l.set-items) ≡ map (λ x. x.now) l.fn.found.items ++ set_names l.set-items
