use Rattle.bk_scripts.proofs.Listed.{widened_is_well_formed as proved}
use Rattle.bk_scripts.proofs.laws.widened_is_well_formed.Goals as goal

pub returns : goal.returns
returns c = proved
