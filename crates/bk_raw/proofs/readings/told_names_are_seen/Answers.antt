use Rattle.bk_raw.proofs.ReadingSeen.{told-names}
use Rattle.bk_raw.proofs.readings.told_names_are_seen.Goals as goal

pub returns : goal.returns
returns c = told-names
