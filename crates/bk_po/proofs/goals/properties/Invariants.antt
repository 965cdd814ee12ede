use Rattle.std.proofs.Common.{◌≡◌, ◌++◌, drop, map}
use Rattle.bk_po.proofs.goals.properties.Given as goal

abbrev pub invariant-loop-level : goal.invariant-loop-level
invariant-loop-level l = l.list.items ++ map (λ k. k.properties) (drop l.level-index l.levels) ≡ map (λ k. k.properties) l.levels
