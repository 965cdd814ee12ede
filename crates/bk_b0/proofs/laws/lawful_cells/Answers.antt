use Rattle.bk_b0.proofs.LevelCells.{constants-have, arrays-have}
use Rattle.bk_b0.proofs.ArrayTypes.{arrays-typed}
use Rattle.bk_b0.proofs.laws.lawful_cells.Goals as goal

pub returns : goal.returns
returns c = record { constants = constants-have; arrays = arrays-have; types = arrays-typed }
