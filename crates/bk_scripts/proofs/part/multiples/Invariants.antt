use Rattle.std.proofs.Common.{take}
use Rattle.std.specs.List.{AllZip}
use Rattle.bk_scripts.specs.Parts.{MultipleMeans}
use Rattle.bk_scripts.proofs.part.multiples.Given as goal

abbrev pub invariant-loop-raw : goal.invariant-loop-raw
invariant-loop-raw l = AllZip MultipleMeans (take l.raw-index l.written) l.multiples.items
