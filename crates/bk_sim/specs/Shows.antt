-- What the cells of the machine's memory show, and when they are linked to an abstract state.
-- Source: B-Book, refinement.
use Rattle.std.specs.Prelude.{◌≡◌, ℤ, List, map, length}
use Rattle.bk_form.specs.Search.{Finder}
use Rattle.bk_form.specs.Environment.{State, IsTypedState, at_state}
use Rattle.bk_dev.specs.Development.{Development, level_at, last}
use Rattle.bk_dev.specs.Hypotheses.{joinings_of}
use Rattle.bk_form.specs.Predicates.{AllHold}
use Rattle.bk_dev.specs.Layout.{cell_variables}
use Rattle.bk_dev.specs.Machine.{Abstract, ShowsAbstract, HasValues}
use Rattle.bk_sim.specs.Shown.{AreOfKinds, shown}

-- ---- cells
-- each cell holds a number of its kind, and the state gives each variable of the last level what its cells give it
pub record Shows (dev : Development) (m : List ℤ) (e : State) : Type 0 where
  pub kinds : AreOfKinds dev (cell_variables dev) m
  pub variables : map e (level_at dev (last dev)).vars ≡ map (shown dev m) (level_at dev (last dev)).vars

-- one state shows the abstract state and the cells, the constants have their values, and every invariant and link is true
pub record IsLinkedBy (find : Finder) (dev : Development) (a : Abstract) (m : List ℤ) (e : State) : Type 0 where
  pub typed : IsTypedState dev.table e
  pub values : HasValues find dev e
  pub abstract_state : ShowsAbstract dev e a
  pub cells : Shows dev m e
  pub joined : AllHold find (at_state dev.table e) (joinings_of dev (length dev.levels))

-- the cells stand for the abstract state: some state of all levels shows both
abbrev pub Linked : Finder → Development → Abstract → List ℤ → Type 0
Linked find dev a m = (e : State) × IsLinkedBy find dev a m e
