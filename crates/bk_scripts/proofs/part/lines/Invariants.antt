use Rattle.std.proofs.Common.{take, map}
use Rattle.std.specs.List.{AllZip}
use Rattle.bk_raw.specs.Codes.ScriptView.{line_of}
use Rattle.bk_scripts.specs.Parts.{LineMeans}
use Rattle.bk_scripts.proofs.part.lines.Given as goal

abbrev pub invariant-loop-raw : goal.invariant-loop-raw
invariant-loop-raw l = AllZip LineMeans (map line_of (take l.raw-index l.written)) l.lines.items
