-- What the obligations are and what they are worth, as statements.
-- Source: B-Book, refinement.
use Rattle.std.specs.Prelude.{◌≡◌, ◌<◌, ℕ, pos, suc, true, false, List, [], ◌∷◌, length, map, codes}
use Rattle.bk_form.specs.Search.{Finder, IsSearch}
use Rattle.bk_dev.specs.Development.{Development, is_complete, with_set_sizes}
use Rattle.bk_form.specs.Sized.{AreSizes, HasSizes}
use Rattle.bk_dev.specs.Facts.{IsDevelopment, IsLawful, IsFlatDevelopment, OnlyLastIsImplementation}
use Rattle.bk_dev.specs.Claims.{Keeps, Carries, ValuesMeet}
use Rattle.bk_dev.specs.Counter.{counter}
use Rattle.bk_seq.specs.Sequents.{Sequent}
use Rattle.bk_po.specs.Obligations.{numbered_obligations, AreValidForAllSizes, HasValidObligations, operation_goal}
use Rattle.bk_po.specs.Typed.{HasTypedObligations}
use Rattle.bk_po.specs.Examples.{tally, stepper}
use Rattle.bk_po.specs.Levels.{BoxesHold, ConditionsHold, AllClean, LevelsAreCarried, IsWellStated}
use Rattle.bk_val.specs.Value.{int}
use Rattle.bk_form.specs.Environment.{State, at_state, IsTypedState}
use Rattle.bk_form.specs.Predicates.{AllHold}
use Rattle.bk_gsl.specs.State.{holds}
use Rattle.bk_dev.specs.Flattened.{flattened}
use Rattle.bk_dev.specs.Hypotheses.{unasserted_hypotheses}
use Rattle.bk_dev.specs.Uncarried.{eager}

-- the counter has thirteen numbered obligations, with these names
abbrev pub CounterHasThese : Type 0
CounterHasThese = map (λ o. o.0) (numbered_obligations counter) ≡
    codes "Counter.INITIALISATION.1" ∷ codes "Counter.reset.1" ∷ codes "Counter.setmax.1" ∷ codes "Counter.get.1" ∷
    codes "Counter_i.INITIALISATION.1" ∷ codes "Counter_i.INITIALISATION.2" ∷
    codes "Counter_i.reset.1" ∷ codes "Counter_i.reset.2" ∷ codes "Counter_i.setmax.1" ∷ codes "Counter_i.setmax.2" ∷
    codes "Counter_i.get.1" ∷ codes "Counter_i.get.2" ∷ codes "Counter_i.get.3" ∷ []

-- the machine keeps its invariant, each level carries the one above, where there is an implementation the constants' values meet the
-- properties, and what is stated is defined, over the table with all copies
pub record IsCorrect (find : Finder) (dev : Development) : Type 0 where
  pub keeps : Keeps find dev
  pub carries : (j : ℕ) → suc j < length dev.levels → Carries find dev j
  pub values : is_complete dev ≡ true → ValuesMeet find dev
  pub stated : IsWellStated find (flattened dev)

-- the development is correct with any sizes for the sets that have none
abbrev pub IsCorrectForAllSizes : Finder → Development → Type 0
IsCorrectForAllSizes find dev = (sizes : ℕ → ℕ) → AreSizes sizes → IsCorrect find (with_set_sizes sizes dev)

-- where each of these sequents is valid, over the table with all copies, the development is correct
abbrev pub AreEnough : Development → List (List ℕ × Sequent) → Type 0
AreEnough dev ss = AreValidForAllSizes (flattened dev).table ss → (find : Finder) → IsSearch find → IsCorrectForAllSizes find dev

-- where every obligation of a development is valid, it is correct
abbrev pub ValidObligationsCarry : Type 0
ValidObligationsCarry = (find : Finder) → IsSearch find → (dev : Development) →
    IsDevelopment dev → HasValidObligations dev → IsCorrectForAllSizes find dev

-- the obligations are the same with any sizes: where there is no implementation none speaks of sizes
abbrev pub SizesKeepObligations : Type 0
SizesKeepObligations = (sizes : ℕ → ℕ) (dev : Development) → IsDevelopment dev →
    numbered_obligations (with_set_sizes sizes dev) ≡ numbered_obligations dev

-- where each set has a size, what is correct for all sizes is correct
abbrev pub WholeIsCorrect : Type 0
WholeIsCorrect = (find : Finder) (dev : Development) → IsDevelopment dev →
    HasSizes dev.sets → IsCorrectForAllSizes find dev → IsCorrect find dev

-- the counter meets what this asks
abbrev pub CounterIsValid : Type 0
CounterIsValid = HasValidObligations counter

-- the adder and the stepper are developments
pub record ExamplesAreDevelopments : Type 0 where
  pub tally_facts : IsDevelopment tally
  pub stepper_facts : IsDevelopment stepper

-- the formulas of a development's obligations are predicates over the table with all copies
abbrev pub ObligationsType : Type 0
ObligationsType = (dev : Development) → IsDevelopment dev → HasTypedObligations dev

-- ---- all levels at once
-- a lawful development without ||, of which the last level alone may be an implementation
pub record IsFlatChain (dev : Development) : Type 0 where
  pub lawful : IsLawful dev
  pub only_last : OnlyLastIsImplementation dev
  pub flat : IsFlatDevelopment dev

-- where the boxes of all levels are true and what is met is defined or fits, the machine keeps its invariant and each level
-- carries the one above; of a lawful development without ||, and nothing else is asked of it
abbrev pub BoxesCarry : Type 0
BoxesCarry = (find : Finder) → IsSearch find → (dev : Development) → IsFlatChain dev → BoxesHold find dev → AllClean find dev →
    LevelsAreCarried find dev

-- so of every development, by that of its flattened, of which Keeps and Carries speak
abbrev pub EveryLevelIsCarried : Type 0
EveryLevelIsCarried = (find : Finder) → IsSearch find → (dev : Development) → IsDevelopment dev → BoxesHold find (flattened dev) →
    AllClean find (flattened dev) → Keeps find dev × ((j : ℕ) → suc j < length dev.levels → Carries find dev j)

-- what is asked beside the boxes says, together with them, that what is met is defined or fits
abbrev pub ConditionsAreClean : Type 0
ConditionsAreClean = (find : Finder) → IsSearch find → (dev : Development) → IsFlatChain dev → BoxesHold find dev →
    ConditionsHold find dev → AllClean find dev

-- the boxes of all levels are asked together: an implementation that is not carried may have a true main goal, where the machine's is false
pub record EagerAsksTheMachine : Type 0 where
  pub below : (find : Finder) (e : State) → IsTypedState (flattened eager).table e → AllHold find (at_state (flattened eager).table e)
      (unasserted_hypotheses (flattened eager) 1 0) → holds find (flattened eager).table e (operation_goal (flattened eager) 1 0) ≡ true
  pub machine : (find : Finder) (e : State) → e 0 ≡ int (pos 0) →
      holds find (flattened eager).table e (operation_goal (flattened eager) 0 0) ≡ false
