-- Which of the obligations of the adder, the stepper and the exchange of two numbers are obvious.
use Rattle.std.specs.Prelude.{◌≡◌, ℕ, Bool, true, false, List, [], ◌∷◌, map, codes}
use Rattle.bk_dev.specs.Development.{Development}
use Rattle.bk_kernel.specs.Obvious.{is_obvious}
use Rattle.bk_po.specs.Obligations.{numbered_obligations}
use Rattle.bk_po.specs.Examples.{tally, stepper}
use Rattle.bk_po.specs.WrittenLists.{swap}

-- each name, and whether its sequent needs no proof
abbrev pub names_and_obvious : Development → List (List ℕ × Bool)
names_and_obvious dev = map (λ s. (s.0, is_obvious s.1.0 s.1.1)) (numbered_obligations dev)

-- the adder has twelve, of which five need a proof
abbrev pub TallyNeeds : Type 0
TallyNeeds = names_and_obvious tally ≡
    (codes "Tally.INITIALISATION.1", true) ∷ (codes "Tally.inc.1", false) ∷ (codes "Tally.get.1", true) ∷
    (codes "Tally_i.INITIALISATION.1", true) ∷ (codes "Tally_i.INITIALISATION.2", true) ∷
    (codes "Tally_i.inc.1", false) ∷ (codes "Tally_i.inc.2", false) ∷
    (codes "Tally_i.get.1", true) ∷ (codes "Tally_i.get.2", true) ∷ (codes "Tally_i.get.3", true) ∷
    (codes "Tally_i.inc.chk.1", false) ∷ (codes "Tally_i.inc.chk.2", false) ∷ []

-- the stepper has thirteen, of which five need a proof
abbrev pub StepperNeeds : Type 0
StepperNeeds = names_and_obvious stepper ≡
    (codes "Stepper.INITIALISATION.1", true) ∷ (codes "Stepper.inc.1", false) ∷
    (codes "Stepper.inc.2", true) ∷ (codes "Stepper.get.1", true) ∷
    (codes "Stepper_i.INITIALISATION.1", true) ∷ (codes "Stepper_i.INITIALISATION.2", true) ∷
    (codes "Stepper_i.inc.1", false) ∷ (codes "Stepper_i.inc.2", false) ∷
    (codes "Stepper_i.get.1", true) ∷ (codes "Stepper_i.get.2", true) ∷ (codes "Stepper_i.get.3", true) ∷
    (codes "Stepper_i.inc.chk.1", false) ∷ (codes "Stepper_i.inc.chk.2", false) ∷ []

-- the exchange of two numbers by || has sixteen, of which two need a proof
abbrev pub SwapNeeds : Type 0
SwapNeeds = names_and_obvious swap ≡
    (codes "Swap.INITIALISATION.1", true) ∷ (codes "Swap.INITIALISATION.2", true) ∷
    (codes "Swap.swap.1", false) ∷ (codes "Swap.both.1", true) ∷ (codes "Swap.both.2", true) ∷
    (codes "Swap_i.INITIALISATION.1", true) ∷ (codes "Swap_i.INITIALISATION.2", true) ∷
    (codes "Swap_i.INITIALISATION.3", true) ∷ (codes "Swap_i.INITIALISATION.4", true) ∷
    (codes "Swap_i.swap.1", false) ∷ (codes "Swap_i.both.1", true) ∷
    (codes "Swap_i.both.2", true) ∷ (codes "Swap_i.both.3", true) ∷ (codes "Swap_i.both.4", true) ∷
    (codes "Swap_i.both.5", true) ∷ (codes "Swap_i.both.6", true) ∷ []
