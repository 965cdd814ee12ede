use Rattle.bk_status.proofs.Examples.{tally_needs, stepper_needs, swap_needs}
use Rattle.bk_status.proofs.laws.examples.Goals as goal

pub returns : goal.returns
returns c = record { tally = tally_needs; stepper = stepper_needs; swap = swap_needs }
