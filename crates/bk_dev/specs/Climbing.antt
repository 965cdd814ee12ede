-- Runs of the last level of a chain, as states see them: a call of an operation, and the initialisation.
-- Source: B-Book, refinement.
use Rattle.std.specs.Prelude.{◌≡◌, ◌≤◌, ℕ, suc, true, List, map, length, Some}
use Rattle.std.specs.List.{filter}
use Rattle.bk_form.specs.Table.{variable_type}
use Rattle.bk_form.specs.Search.{Finder}
use Rattle.bk_form.specs.Environment.{State, IsTypedState, at_state}
use Rattle.bk_form.specs.Predicates.{AllHold, equation}
use Rattle.bk_gsl.specs.State.{holds}
use Rattle.bk_gsl.specs.Run.{Runs, Ends}
use Rattle.bk_gsl.specs.Clean.{Clean}
use Rattle.bk_dev.specs.Development.{Development, level_at, body_at, inputs_of, last, is_complete}
use Rattle.bk_dev.specs.Facts.{is_variable_of, is_input, is_inner_of, home_of, IsLawful}
use Rattle.bk_dev.specs.Hypotheses.{joinings_of, is_number, in_machine_range}
use Rattle.bk_dev.specs.Layout.{arrays_of}
use Rattle.bk_dev.specs.Machine.{HasValues}
use Rattle.bk_dev.specs.Claims.{beside, KeepsFlat, ValuesMeet}

-- a lawful chain that ends in an implementation, whose constants have values that meet the properties, and whose machine keeps its
-- invariant
pub record IsKept (find : Finder) (dev : Development) : Type 0 where
  pub lawful : IsLawful dev
  pub complete : is_complete dev ≡ true
  pub values : ValuesMeet find dev
  pub keeps : KeepsFlat find dev

-- the numbers among these variables are within the machine's range
abbrev pub AreInRange : Finder → Development → List ℕ → State → Type 0
AreInRange find dev xs e =
    AllHold find (at_state dev.table e) (map (in_machine_range dev) (filter (λ x. is_number (variable_type dev.table x)) xs))

-- two lists of variables have the same values
abbrev pub AreEqual : Finder → Development → List ℕ → List ℕ → State → Type 0
AreEqual find dev xs ys e = AllHold find (at_state dev.table e) (map equation (beside xs ys))

-- ---- calls
-- a state from which operation o of the last level is called
pub record StartsCall (find : Finder) (dev : Development) (o : ℕ) (e : State) : Type 0 where
  pub typed : IsTypedState dev.table e
  pub values : HasValues find dev e
  pub joined : AllHold find (at_state dev.table e) (joinings_of dev (length dev.levels))
  pub condition : holds find dev.table e (body_at dev 0 o).condition ≡ true
  pub ranges : AreInRange find dev (inputs_of dev o) e
  -- the outputs of all levels have the same values
  pub outputs : (k : ℕ) → suc k ≤ last dev → AreEqual find dev (body_at dev (suc k) o).outputs (body_at dev k o).outputs e

-- a run of the machine's body that answers one of the last level's from e to top
pub record EndsCall (find : Finder) (dev : Development) (o : ℕ) (e top : State) : Type 0 where
  pub before : State
  pub after : State
  pub typed : IsTypedState dev.table before
  pub runs : Runs find dev.table (body_at dev 0 o).sub before after
  -- it starts where the machine's variables, inputs, outputs and locals are as in e
  pub same : (n : ℕ) → is_variable_of 0 (home_of dev n) ≡ true → before n ≡ e n
  pub same_inputs : (n : ℕ) → is_input (home_of dev n) ≡ true → before n ≡ e n
  pub same_inner : (n : ℕ) → is_inner_of 0 (home_of dev n) ≡ true → before n ≡ e n
  pub joined : AllHold find (at_state dev.table after) (joinings_of dev (length dev.levels))
  -- and ends where the last level's variables are as in top
  pub kept : (n : ℕ) → is_variable_of (last dev) (home_of dev n) ≡ true → after n ≡ top n
  pub gives : map after (body_at dev 0 o).outputs ≡ map top (body_at dev (last dev) o).outputs
  pub typed_after : IsTypedState dev.table after

-- the last level's body ends and is clean, and its runs are those of a call of the machine
pub record IsCalled (find : Finder) (dev : Development) (o : ℕ) (e : State) : Type 0 where
  pub ends : Ends find dev.table (body_at dev (last dev) o).sub e
  pub clean : Clean find dev.table (Some (arrays_of dev)) (body_at dev (last dev) o).sub e
  pub runs : (top : State) → Runs find dev.table (body_at dev (last dev) o).sub e top → EndsCall find dev o e top

-- ---- openings
-- a state from which the last level's initialisation runs
pub record StartsOpening (find : Finder) (dev : Development) (e : State) : Type 0 where
  pub typed : IsTypedState dev.table e
  pub values : HasValues find dev e
  -- linked variables have the same values
  pub linked : AllHold find (at_state dev.table e) (map equation (level_at dev (last dev)).links)

-- a run of the machine's initialisation that answers one of the last level's from e to top
pub record EndsOpening (find : Finder) (dev : Development) (e top : State) : Type 0 where
  pub before : State
  pub after : State
  pub typed : IsTypedState dev.table before
  pub runs : Runs find dev.table (level_at dev 0).init before after
  pub same : (n : ℕ) → is_variable_of 0 (home_of dev n) ≡ true → before n ≡ e n
  pub same_inner : (n : ℕ) → is_inner_of 0 (home_of dev n) ≡ true → before n ≡ e n
  pub joined : AllHold find (at_state dev.table after) (joinings_of dev (length dev.levels))
  pub kept : (n : ℕ) → is_variable_of (last dev) (home_of dev n) ≡ true → after n ≡ top n
  pub typed_after : IsTypedState dev.table after

-- the last level's initialisation ends and is clean, and its runs are those of the machine's
pub record IsOpened (find : Finder) (dev : Development) (e : State) : Type 0 where
  pub ends : Ends find dev.table (level_at dev (last dev)).init e
  pub clean : Clean find dev.table (Some (arrays_of dev)) (level_at dev (last dev)).init e
  pub runs : (top : State) → Runs find dev.table (level_at dev (last dev)).init e top → EndsOpening find dev e top
