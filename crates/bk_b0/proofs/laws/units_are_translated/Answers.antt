use Rattle.bk_b0.proofs.Units.{units_are_translated}
use Rattle.bk_b0.proofs.laws.units_are_translated.Goals as goal

pub returns : goal.returns
returns c = units_are_translated
