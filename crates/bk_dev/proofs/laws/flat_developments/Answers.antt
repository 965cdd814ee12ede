use Rattle.bk_dev.proofs.FlatLevels.{flattened_lawful}
use Rattle.bk_dev.proofs.FlatMachines.{flattened_runs}
use Rattle.bk_dev.proofs.FlatB0.{flattened_stays_in_b0}
use Rattle.bk_dev.proofs.FlatCells.{flattened_keeps_cells}
use Rattle.bk_dev.proofs.laws.flat_developments.Goals as goal

pub returns : goal.returns
returns c = record { lawful = flattened_lawful; runs = flattened_runs; cells = flattened_keeps_cells; in_b0 = flattened_stays_in_b0 }
