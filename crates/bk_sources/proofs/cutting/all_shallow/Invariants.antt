use Rattle.std.proofs.Common.{map, take}
use Rattle.std.specs.List.{AllZip}
use Rattle.bk_sources.specs.Files.{IsShallowText}
use Rattle.bk_sources.proofs.cutting.all_shallow.Given as goal

abbrev pub invariant-loop-file : goal.invariant-loop-file
invariant-loop-file l = AllZip IsShallowText (take l.file (map (λ t. t.items) l.fn.texts)) (take l.file (map (λ f. f.items) l.files))
