use Rattle.std.proofs.Common.{map, take}
use Rattle.std.specs.List.{AllZip}
use Rattle.bk_front.specs.Stages.{IsReadOf}
use Rattle.bk_front.proofs.reading.all_read.Given as goal

abbrev pub invariant-loop-file : goal.invariant-loop-file
invariant-loop-file l = AllZip IsReadOf (take l.file (map (λ t. t.items) l.fn.texts)) l.all.items
