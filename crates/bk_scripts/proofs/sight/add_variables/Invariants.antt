use Rattle.std.proofs.Common.{◌≡◌, ◌++◌, take}
use Rattle.std.specs.List.{flat_map}
use Rattle.bk_scripts.proofs.sight.add_variables.Given as goal

abbrev pub invariant-loop-level : goal.invariant-loop-level
invariant-loop-level l = l.variables.items ≡ l.fn.variables.items ++ flat_map (λ v. v.vars) (take l.level-index l.levels)
