use Rattle.bk_raw.proofs.ReadingKept.{readings-kept}
use Rattle.bk_raw.proofs.readings.readings_are_kept.Goals as goal

pub returns : goal.returns
returns c = readings-kept
