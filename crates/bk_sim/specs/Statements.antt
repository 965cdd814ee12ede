-- The code of statements follows them.
use Rattle.std.specs.Prelude.{◌≡◌, ◌<◌, ◌≤◌, ℕ, ◌+◌, ℤ, Bool, true, List, [], length, Some}
use Rattle.bk_form.specs.Search.{Finder}
use Rattle.bk_form.specs.Environment.{State}
use Rattle.bk_gsl.specs.Substitution.{Substitution}
use Rattle.bk_gsl.specs.State.{among}
use Rattle.bk_gsl.specs.Typed.{Types}
use Rattle.bk_gsl.specs.Run.{Runs, Ends}
use Rattle.bk_gsl.specs.Clean.{Clean}
use Rattle.bk_dev.specs.B0.{IsB0, IsB0Development}
use Rattle.bk_dev.specs.Development.{Development, int_max, level_at, body_at, inputs_of, last}
use Rattle.bk_dev.specs.Facts.{StaysIn, names_own, IsLawful}
use Rattle.bk_dev.specs.Layout.{arrays_of, locals}
use Rattle.bk_code.specs.declared.image.Image.{Image}
use Rattle.bk_code.specs.declared.instruction.Inst.{Inst}
use Rattle.bk_code.specs.Numbers.{int_max as code_max}
use Rattle.bk_code.specs.Step.{Config}
use Rattle.bk_code.specs.Run.{Leads, ReturnsAfter, Done, Ends as EndsWith}
use Rattle.bk_b0.specs.Translation.{statement_code, operation_code, init_code}
use Rattle.bk_sim.specs.Ending.{HasNoLoop, EndsWithin}
use Rattle.bk_sim.specs.Placed.{Stands, at_place}
use Rattle.bk_sim.specs.Shown.{ShownIn, KindsHold}
use Rattle.bk_b0.specs.Cells.{IsKnown, IsCell, ValuesHaveKinds, ArraysHaveCells, ArraysAreTyped}

-- the constants' values are those of their types, and each array has cells and the type of its indices
pub record HasStorage (dev : Development) : Type 0 where
  pub values : ValuesHaveKinds dev dev.values
  pub arrays : ArraysHaveCells dev
  pub types : ArraysAreTyped dev

-- the statement is in B0, types, and stays in its scopes, in which all that it reads has a value or cells; what it writes and its
-- locals have cells
pub record IsRunnable (dev : Development) (scope above writable : ℕ → Bool) (s : Substitution) : Type 0 where
  pub types : Types dev.table s
  pub stays : StaysIn scope above writable s
  pub in_b0 : IsB0 dev s
  pub known : (n : ℕ) → scope n ≡ true → IsKnown dev n
  pub settable : (n : ℕ) → writable n ≡ true → IsCell dev n × (scope n ≡ true)
  pub inner : (n : ℕ) → among (locals s) n ≡ true → IsCell dev n

-- the image has the development's range, the code stands at the place, and the cells show a state in which the statement is clean and
-- ends
pub record IsCleanStart (find : Finder) (dev : Development) (image : Image) (scope : ℕ → Bool) (s : Substitution)
    (code : List Inst) (place : ℕ) (m : List ℤ) (e : State) : Type 0 where
  pub range : code_max image ≡ int_max dev
  pub stands : Stands image place code
  pub kinds : KindsHold dev m
  pub shows : ShownIn dev scope m e
  pub clean : Clean find dev.table (Some (arrays_of dev)) s e
  pub ends : Ends find dev.table s e

-- the code goes to the place after it, with cells that show a state to which the statement runs: after a VAR the state has put
-- its locals back, and the cells have not, so that only what is in scope is shown; without loops in at most as many steps as
-- it has instructions
pub record IsFollowed (find : Finder) (dev : Development) (image : Image) (scope : ℕ →
    Bool) (s : Substitution) (place : ℕ) (m : List ℤ) (e : State) : Type 0 where
  pub steps : ℕ
  pub cells : List ℤ
  pub state : State
  pub leads : Leads image steps (at_place place m) (at_place (place + length (statement_code dev s)) cells)
  pub few : HasNoLoop s → steps ≤ length (statement_code dev s)
  pub runs : Runs find dev.table s e state
  pub kinds : KindsHold dev cells
  pub shows : ShownIn dev scope cells state

-- a B0 statement's code, wherever it stands in whatever image: from cells that show a state in which the statement is clean and ends
abbrev pub StatementsFollow : Type 0
StatementsFollow = (find : Finder) (dev : Development) (image : Image) → HasStorage dev →
    (s : Substitution) (scope above writable : ℕ → Bool) → IsRunnable dev scope above writable s →
    (place : ℕ) (m : List ℤ) (e : State) → IsCleanStart find dev image scope s (statement_code dev s) place m e →
    IsFollowed find dev image scope s place m e

-- the call that starts at this place with these cells returns, with cells that show a state to which the statement runs; without
-- loops it does so within this number of steps
pub record IsReturned (find : Finder) (dev : Development) (image : Image) (scope : ℕ →
    Bool) (s : Substitution) (size place : ℕ) (m : List ℤ) (e : State) : Type 0 where
  pub steps : ℕ
  pub end : Config
  pub state : State
  pub returns : ReturnsAfter image steps (at_place place m) end
  pub few : HasNoLoop s → steps ≤ size
  pub runs : Runs find dev.table s e state
  pub kinds : KindsHold dev end.cells
  pub shows : ShownIn dev scope end.cells state

-- so do the operations of a lawful last level in B0: a call returns, with
-- inputs, outputs, variables and constants as a run of the body leaves them
abbrev pub OperationsFollow : Type 0
OperationsFollow = (find : Finder) (dev : Development) (image : Image) → IsLawful dev → IsB0Development dev →
    (o : ℕ) → o < length dev.heads → (place : ℕ) (m : List ℤ) (e : State) →
    IsCleanStart find dev image (names_own dev (last dev) (inputs_of dev o) (body_at dev (last dev) o).outputs)
    (body_at dev (last dev) o).sub (operation_code dev (body_at dev (last dev) o)) place m e →
    IsReturned find dev image (names_own dev (last dev) (inputs_of dev o) (body_at dev (last dev) o).outputs)
    (body_at dev (last dev) o).sub (length (operation_code dev (body_at dev (last dev) o))) place m e

-- and its initialisation
abbrev pub OpeningsFollow : Type 0
OpeningsFollow = (find : Finder) (dev : Development) (image : Image) → IsLawful dev → IsB0Development dev →
    (place : ℕ) (m : List ℤ) (e : State) →
    IsCleanStart find dev image (names_own dev (last dev) [] []) (level_at dev (last dev)).init (init_code dev) place m e →
    IsReturned find dev image (names_own dev (last dev) [] []) (level_at dev (last dev)).init (length (init_code dev)) place m e

-- a call that returns so is done with each fuel of at least its steps; without loops with a fuel equal to the length of its code
abbrev pub ReturnsEnd : Type 0
ReturnsEnd = (find : Finder) (dev : Development) (image : Image) (scope : ℕ →
    Bool) (s : Substitution) (size place : ℕ) (m : List ℤ) (e : State) (r : IsReturned find dev image scope s size place m e) →
    ((fuel : ℕ) → r.steps ≤ fuel → EndsWith image fuel (at_place place m) (Done r.steps) r.end)
    × (HasNoLoop s → EndsWithin image size (at_place place m))
