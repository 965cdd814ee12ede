use Rattle.std.proofs.Common.{◌≡◌, drop}
use Rattle.bk_front.specs.ProjectFile.{range_of}
use Rattle.bk_front.proofs.reading.range_of.Given as goal

abbrev pub invariant-loop-line : goal.invariant-loop-line
invariant-loop-line l = range_of (drop l.line-index l.lines) ≡ range_of l.lines
