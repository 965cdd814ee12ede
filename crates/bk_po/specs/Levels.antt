-- What the obligations of all levels say, each by itself; of developments whose substitutions are flat.
-- Source: B-Book, refinement.
use Rattle.std.specs.Prelude.{◌≡◌, ◌<◌, ℕ, suc, true, List, [], ◌∷◌, length}
use Rattle.std.specs.List.{flat_map}
use Rattle.bk_form.specs.Formula.{Formula}
use Rattle.bk_form.specs.Search.{Finder}
use Rattle.bk_form.specs.Environment.{State, at_state, IsTypedState}
use Rattle.bk_form.specs.Defined.{Defined}
use Rattle.bk_form.specs.Predicates.{AllHold, conjuncts}
use Rattle.bk_gsl.specs.State.{holds}
use Rattle.bk_gsl.specs.Clean.{Clean}
use Rattle.bk_dev.specs.Development.{Development, level_at, body_at, whole}
use Rattle.bk_dev.specs.Hypotheses.{properties_hypotheses, invariant_hypotheses}
use Rattle.bk_dev.specs.Hypotheses.{assertion_hypotheses, init_hypotheses, unasserted_hypotheses}
use Rattle.bk_dev.specs.Claims.{arrays_at, IsBetweenCalls, KeepsFlat, CarriesFlat}
use Rattle.bk_po.specs.Obligations.{init_goal, operation_goal, evaluation_goal}

-- each main goal, of initialisations and operations, is true under its hypotheses, assertions left aside
pub record BoxesHold (find : Finder) (dev : Development) : Type 0 where
  pub inits : (k : ℕ) → k < length dev.levels → (e : State) → IsTypedState dev.table e →
      AllHold find (at_state dev.table e) (init_hypotheses dev k) → holds find dev.table e (init_goal dev k) ≡ true
  pub machine : (o : ℕ) → o < length dev.heads → (e : State) → IsBetweenCalls find dev e →
      holds find dev.table e (body_at dev 0 o).condition ≡ true →
      holds find dev.table e (operation_goal dev 0 o) ≡ true
  pub operations : (j : ℕ) → suc j < length dev.levels → (o : ℕ) → o < length dev.heads → (e : State) →
      IsTypedState dev.table e → AllHold find (at_state dev.table e) (unasserted_hypotheses dev (suc j) o) →
      holds find dev.table e (operation_goal dev (suc j) o) ≡ true

-- what is asked beside each box is true under its hypotheses: that what is met is defined or fits the machine
pub record ConditionsHold (find : Finder) (dev : Development) : Type 0 where
  pub inits : (k : ℕ) → k < length dev.levels → (e : State) → IsTypedState dev.table e → AllHold find (at_state dev.table e)
      (init_hypotheses dev k) → holds find dev.table e (evaluation_goal dev k (level_at dev k).init) ≡ true
  pub machine : (o : ℕ) → o < length dev.heads → (e : State) → IsBetweenCalls find dev e →
      holds find dev.table e (evaluation_goal dev 0 (whole (body_at dev 0 o))) ≡ true
  pub operations : (j : ℕ) → suc j < length dev.levels → (o : ℕ) → o < length dev.heads → (e : State) →
      IsTypedState dev.table e → AllHold find (at_state dev.table e) (unasserted_hypotheses dev (suc j) o) →
      holds find dev.table e (evaluation_goal dev (suc j) (whole (body_at dev (suc j) o))) ≡ true

-- each initialisation and each body is clean under its hypotheses, and the machine's preconditions are defined
pub record AllClean (find : Finder) (dev : Development) : Type 0 where
  pub inits : (k : ℕ) → k < length dev.levels → (e : State) → IsTypedState dev.table e →
      AllHold find (at_state dev.table e) (init_hypotheses dev k) → Clean find dev.table (arrays_at dev k) (level_at dev k).init e
  pub conditions : (o : ℕ) → o < length dev.heads → (e : State) → IsBetweenCalls find dev e →
      Defined find (at_state dev.table e) (body_at dev 0 o).condition
  pub machine : (o : ℕ) → o < length dev.heads → (e : State) → IsBetweenCalls find dev e →
      holds find dev.table e (body_at dev 0 o).condition ≡ true →
      Clean find dev.table (arrays_at dev 0) (body_at dev 0 o).sub e
  pub operations : (j : ℕ) → suc j < length dev.levels → (o : ℕ) → o < length dev.heads → (e : State) →
      IsTypedState dev.table e → AllHold find (at_state dev.table e) (unasserted_hypotheses dev (suc j) o) →
      Clean find dev.table (arrays_at dev (suc j)) (whole (body_at dev (suc j) o)) e

-- the machine keeps its invariant, and each level carries the one above
pub record LevelsAreCarried (find : Finder) (dev : Development) : Type 0 where
  pub keeps : KeepsFlat find dev
  pub carries : (j : ℕ) → suc j < length dev.levels → CarriesFlat find dev j

-- each of the formulas is defined where those before it are true
abbrev pub AreDefinedInTurn : Finder → Development → State → List Formula → Type 0
AreDefinedInTurn find dev e [] = Unit {0}
AreDefinedInTurn find dev e (p ∷ ps) = Defined find (at_state dev.table e) p
    × (holds find dev.table e p ≡ true → AreDefinedInTurn find dev e ps)

-- properties, invariants and assertions are defined where what stands before them is true, and there the assertions are true
pub record IsWellStated (find : Finder) (dev : Development) : Type 0 where
  pub properties : (k : ℕ) → k < length dev.levels → (e : State) → IsTypedState dev.table e →
      AllHold find (at_state dev.table e) (properties_hypotheses dev k) → Defined find (at_state dev.table e) (level_at dev k).properties
  pub invariants : (k : ℕ) → k < length dev.levels → (e : State) → IsTypedState dev.table e →
      AllHold find (at_state dev.table e) (invariant_hypotheses dev k) → Defined find (at_state dev.table e) (level_at dev k).invariant
  pub assertions : (k : ℕ) → k < length dev.levels → (e : State) → IsTypedState dev.table e →
      AllHold find (at_state dev.table e) (assertion_hypotheses dev k) → AreDefinedInTurn find dev e (level_at dev k).assertions
      × AllHold find (at_state dev.table e) (flat_map conjuncts (level_at dev k).assertions)
