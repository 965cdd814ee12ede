use Rattle.bk_phases.proofs.Grown.{grows}
use Rattle.bk_phases.proofs.laws.levels.Goals as goal

pub returns : goal.returns
returns c = grows
