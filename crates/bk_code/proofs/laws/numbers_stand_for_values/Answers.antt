use Rattle.bk_code.proofs.CellValues.{stands_for_one}
use Rattle.bk_code.proofs.laws.numbers_stand_for_values.Goals as goal

pub returns : goal.returns
returns c = stands_for_one
