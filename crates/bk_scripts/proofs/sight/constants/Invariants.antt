use Rattle.std.proofs.Common.{◌≡◌, take}
use Rattle.bk_scripts.specs.Sight.{constants_from}
use Rattle.bk_scripts.proofs.sight.constants.Given as goal

abbrev pub invariant-loop-index : goal.invariant-loop-index
invariant-loop-index l = l.constants.items ≡ constants_from 0 (take l.index l.homes)
