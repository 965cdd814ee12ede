-- What the obligations of a development say: the machine keeps its invariant, and each level carries the one above.
-- Source: B-Book, proof obligations and refinement.
use Rattle.std.specs.Prelude.{◌≡◌, ◌<◌, ℕ, suc, true, cond, List, [], ◌∷◌, ◌++◌, length, map, Option, Some, None}
use Rattle.bk_form.specs.ArrayTable.{ArrayTable}
use Rattle.bk_form.specs.Search.{Finder}
use Rattle.bk_form.specs.Environment.{State, at_state, IsTypedState}
use Rattle.bk_form.specs.Defined.{Defined}
use Rattle.bk_gsl.specs.Substitution.{Substitution}
use Rattle.bk_gsl.specs.State.{holds}
use Rattle.bk_gsl.specs.Run.{Runs, Ends}
use Rattle.bk_gsl.specs.Clean.{Clean}
use Rattle.bk_dev.specs.Development.{Development, level_at, body_at, last, is_implementation, whole}
use Rattle.bk_dev.specs.Facts.{AreDistinct, seconds}
use Rattle.bk_dev.specs.Flattened.{flattened}
use Rattle.bk_dev.specs.Hypotheses.{properties_of, joining, init_hypotheses, unasserted_hypotheses}
use Rattle.bk_form.specs.Predicates.{AllHold, equation}
use Rattle.bk_dev.specs.Layout.{arrays_of}
use Rattle.bk_dev.specs.Machine.{HasValues}

-- in an implementation executed expressions fit the machine
abbrev pub arrays_at : Development → ℕ → Option ArrayTable
arrays_at dev k = cond (is_implementation (level_at dev k)) (Some (arrays_of dev)) None

-- it ends, is clean, and each of its results has P
pub record Establishes (find : Finder) (dev : Development) (k : ℕ) (s : Substitution) (e : State) (P : State → Type 0) : Type 0 where
  pub ends : Ends find dev.table s e
  pub clean : Clean find dev.table (arrays_at dev k) s e
  pub results : (f : State) → Runs find dev.table s e f → P f

-- a state between calls of the machine's operations
pub record IsBetweenCalls (find : Finder) (dev : Development) (e : State) : Type 0 where
  pub typed : IsTypedState dev.table e
  pub properties : AllHold find (at_state dev.table e) (properties_of dev 1)
  pub invariant : holds find dev.table e (level_at dev 0).invariant ≡ true

-- of a development whose substitutions are flat
pub record KeepsFlat (find : Finder) (dev : Development) : Type 0 where
  pub init : (e : State) → IsTypedState dev.table e → AllHold find (at_state dev.table e) (init_hypotheses dev 0) →
      Establishes find dev 0 (level_at dev 0).init e (λ f. holds find dev.table f (level_at dev 0).invariant ≡ true)
  pub conditions : (o : ℕ) → o < length dev.heads → (e : State) → IsBetweenCalls find dev e →
      Defined find (at_state dev.table e) (body_at dev 0 o).condition
  pub operations : (o : ℕ) → o < length dev.heads → (e : State) → IsBetweenCalls find dev e →
      holds find dev.table e (body_at dev 0 o).condition ≡ true →
      Establishes find dev 0 (body_at dev 0 o).sub e (λ f. holds find dev.table f (level_at dev 0).invariant ≡ true)

-- the machine's initialisation and operations keep its invariant
abbrev pub Keeps : Finder → Development → Type 0
Keeps find dev = KeepsFlat find (flattened dev)

-- each output with the one above
abbrev pub beside : List ℕ → List ℕ → List (ℕ × ℕ)
beside (n ∷ ns) (m ∷ ms) = (n, m) ∷ beside ns ms
beside _ _ = []

-- the invariant and the links of level k, and the outputs of the two levels are equal
abbrev pub JoinsAt : Finder → Development → ℕ → List ℕ → List ℕ → State → Type 0
JoinsAt find dev k outputs above e = AllHold find (at_state dev.table e) (joining (level_at dev k) ++ map equation (beside outputs above))

-- each result of the lower substitution can be answered by the upper one
abbrev pub Answered : Finder → Development → ℕ → Substitution → List ℕ → List ℕ → State → Type 0
Answered find dev k upper outputs above f = (g : State) × Runs find dev.table upper f g × JoinsAt find dev k outputs above g

-- of a development whose substitutions are flat; level suc j carries level j
pub record CarriesFlat (find : Finder) (dev : Development) (j : ℕ) : Type 0 where
  pub init : (e : State) → IsTypedState dev.table e → AllHold find (at_state dev.table e) (init_hypotheses dev (suc j)) →
      Establishes find dev (suc j) (level_at dev (suc j)).init e (Answered find dev (suc j) (level_at dev j).init [] [])
  pub operations : (o : ℕ) → o < length dev.heads → (e : State) → IsTypedState dev.table e →
      AllHold find (at_state dev.table e) (unasserted_hypotheses dev (suc j) o) →
      Establishes find dev (suc j) (whole (body_at dev (suc j) o)) e
      (Answered find dev (suc j) (body_at dev j o).sub (body_at dev (suc j) o).outputs (body_at dev j o).outputs)

-- level suc j carries level j: each of its whole bodies ends, is clean, and from each of its results the body above has one in which the
-- levels join
abbrev pub Carries : Finder → Development → ℕ → Type 0
Carries find dev j = CarriesFlat find (flattened dev) j

-- ---- from equal values
-- level suc j carries level j from states in which the outputs of both have the same values, and at the start linked variables: a body
-- that does not set an output leaves it as it was, below and above
pub record CarriesFromEqual (find : Finder) (dev : Development) (j : ℕ) : Type 0 where
  pub init : (e : State) → IsTypedState dev.table e → AllHold find (at_state dev.table e) (init_hypotheses dev (suc j)) →
      AllHold find (at_state dev.table e) (map equation (level_at dev (suc j)).links) →
      Establishes find dev (suc j) (level_at dev (suc j)).init e (Answered find dev (suc j) (level_at dev j).init [] [])
  pub operations : (o : ℕ) → o < length dev.heads → (e : State) → IsTypedState dev.table e →
      AllHold find (at_state dev.table e) (unasserted_hypotheses dev (suc j) o) →
      AllHold find (at_state dev.table e) (map equation (beside (body_at dev (suc j) o).outputs (body_at dev j o).outputs)) →
      Establishes find dev (suc j) (whole (body_at dev (suc j) o)) e
      (Answered find dev (suc j) (body_at dev j o).sub (body_at dev (suc j) o).outputs (body_at dev j o).outputs)

-- so the last level does, and no two of its variables are linked to one
pub record LastCarriesFromEqual (find : Finder) (dev : Development) : Type 0 where
  pub carries : (j : ℕ) → suc j ≡ last dev → CarriesFromEqual find dev j
  pub apart : AreDistinct (seconds (level_at dev (last dev)).links)

-- ---- values
-- the constants' values meet all properties
abbrev pub ValuesMeet : Finder → Development → Type 0
ValuesMeet find dev = (e : State) → IsTypedState dev.table e → HasValues find dev e →
    AllHold find (at_state dev.table e) (properties_of dev (length dev.levels))
