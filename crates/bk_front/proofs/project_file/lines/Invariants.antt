use Rattle.std.proofs.Common.{length}
use Rattle.bk_front.proofs.ProjectFiles.{ReadSoFar}
use Rattle.bk_front.proofs.project_file.lines.Given as goal

abbrev pub invariant-loop-line : goal.invariant-loop-line
invariant-loop-line l = ReadSoFar l.text l.rest l.number l.lines.items l.last

abbrev pub decreases-loop-line : goal.decreases-loop-line
decreases-loop-line l = length l.rest
