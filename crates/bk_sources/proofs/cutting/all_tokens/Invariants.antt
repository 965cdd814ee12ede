use Rattle.std.proofs.Common.{map, take}
use Rattle.std.specs.List.{AllZip}
use Rattle.bk_sources.specs.Files.{IsCut}
use Rattle.bk_sources.proofs.cutting.all_tokens.Given as goal

abbrev pub invariant-loop-file : goal.invariant-loop-file
invariant-loop-file l = AllZip IsCut (take l.file (map (λ t. t.items) l.texts)) (map (λ f. f.items) l.files.items)
