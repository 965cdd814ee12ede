-- Closed examples of status tables, and of what is obvious.
use Rattle.std.proofs.Common.{[], refl}
use Rattle.std.specs.Fmt.{digits}
use Rattle.bk_status.specs.Examples.{TallyNeeds, StepperNeeds, SwapNeeds}

-- ---- obligations
pub tally_needs : TallyNeeds
unfolding digits
tally_needs = refl

pub stepper_needs : StepperNeeds
unfolding digits
stepper_needs = refl

pub swap_needs : SwapNeeds
unfolding digits
swap_needs = refl
