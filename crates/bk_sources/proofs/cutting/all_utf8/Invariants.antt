use Rattle.std.proofs.Common.{All, map, take}
use Rattle.std.specs.Str.{IsUtf8}
use Rattle.bk_sources.proofs.cutting.all_utf8.Given as goal

abbrev pub invariant-loop-file : goal.invariant-loop-file
invariant-loop-file l = All IsUtf8 (take l.file (map (λ t. t.items) l.texts))
