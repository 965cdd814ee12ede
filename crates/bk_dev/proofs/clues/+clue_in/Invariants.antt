use Rattle.std.proofs.Common.{length}
use Rattle.bk_dev.proofs.clues.+clue_in.Given as goal

abbrev pub decreases-clue_in : goal.decreases-clue_in
decreases-clue_in l = length l.levels.now
