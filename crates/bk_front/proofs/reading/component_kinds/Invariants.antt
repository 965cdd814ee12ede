use Rattle.std.proofs.Common.{◌≡◌, take}
use Rattle.bk_front.specs.ProjectFile.{kinds_of}
use Rattle.bk_front.proofs.reading.component_kinds.Given as goal

abbrev pub invariant-loop-line : goal.invariant-loop-line
invariant-loop-line l = l.kinds.items ≡ kinds_of (take l.line-index l.lines)
