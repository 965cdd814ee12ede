use Rattle.std.proofs.Common.{take}
use Rattle.std.specs.List.{AllZip}
use Rattle.bk_scripts.specs.Parts.{NumberMeans}
use Rattle.bk_scripts.proofs.part.numbers.Given as goal

abbrev pub invariant-loop-raw : goal.invariant-loop-raw
invariant-loop-raw l = AllZip NumberMeans (take l.raw-index l.written) l.numbers.items
