use Rattle.bk_raw.proofs.GivesTakesRight.{gives-and-takes}
use Rattle.bk_raw.proofs.readings.gives_and_takes.Goals as goal

pub returns : goal.returns
returns c = gives-and-takes
