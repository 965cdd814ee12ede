use Rattle.std.proofs.Common.{take, All}
use Rattle.bk_front.specs.Project.{DeclaresFew}
use Rattle.bk_front.proofs.reading.all_few.Given as goal

abbrev pub invariant-loop-file : goal.invariant-loop-file
invariant-loop-file l = All DeclaresFew (take l.file l.fn.components)
