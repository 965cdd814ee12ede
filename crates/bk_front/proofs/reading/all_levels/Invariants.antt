use Rattle.bk_front.proofs.Levels.{LevelsSoFar}
use Rattle.bk_front.proofs.reading.all_levels.Given as goal

abbrev pub invariant-loop-file : goal.invariant-loop-file
invariant-loop-file l = LevelsSoFar l.fn.max l.fn.kinds l.fn.components l.file l.dev
