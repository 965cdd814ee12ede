use Rattle.bk_po.proofs.Enough.{boxes_carry, every_level_is_carried}
use Rattle.bk_po.proofs.Conditions.{conditions_are_clean}
use Rattle.bk_po.proofs.Eager.{eager_asks_the_machine}
use Rattle.bk_po.proofs.laws.all_levels.Goals as goal

pub returns : goal.returns
returns c = record { carries = boxes_carry; every = every_level_is_carried; clean = conditions_are_clean; eager = eager_asks_the_machine }
