use Rattle.std.proofs.Common.{◌≡◌, take}
use Rattle.std.specs.List.{flat_map}
use Rattle.bk_dev.specs.Development.{body_of}
use Rattle.bk_scripts.proofs.sight.operation_parameters.Given as goal

abbrev pub invariant-loop-level : goal.invariant-loop-level
invariant-loop-level l = l.parameters.items ≡ flat_map (λ v. (body_of v l.operation).outputs) (take l.level-index l.levels)
