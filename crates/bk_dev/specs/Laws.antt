-- What holds of developments, and what a small machine reaches, as statements.
use Rattle.std.specs.Prelude.{◌≡◌, ◌↔◌, pos, true, List, [], ◌∷◌, ◌<◌, ◌≤◌, ℕ, suc, length, All}
use Rattle.bk_val.specs.Value.{MathValue, int}
use Rattle.bk_form.specs.Search.{Finder}
use Rattle.bk_dev.specs.Facts.{IsDevelopment, IsFlatDevelopment, IsLawful, LastIsFlat, OnlyLastIsImplementation}
use Rattle.bk_dev.specs.Machine.{Abstract, Reach, Legal}
use Rattle.bk_dev.specs.Counter.{counter, forbidden, setmax, get}
use Rattle.bk_dev.specs.Development.{Development, body_at, level_at, last, is_complete, with_set_sizes}
use Rattle.bk_dev.specs.Hypotheses.{size_equations}
use Rattle.bk_form.specs.Predicates.{AllHold}
use Rattle.bk_form.specs.Environment.{Environment}
use Rattle.bk_form.specs.Sized.{AreSizes, HasSizes}
use Rattle.bk_gsl.specs.Run.{Runs}
use Rattle.bk_form.specs.Environment.{State}
use Rattle.bk_dev.specs.B0.{IsB0Development}
use Rattle.bk_dev.specs.Layout.{arrays_of, cell_count, cell_of, cells_of}
use Rattle.bk_dev.specs.Flattened.{flattened}
use Rattle.bk_dev.specs.Claims.{CarriesFlat, Carries, CarriesFromEqual, LastCarriesFromEqual}
use Rattle.bk_dev.specs.Climbing.{IsKept, StartsCall, IsCalled, StartsOpening, IsOpened}
use Rattle.bk_dev.specs.Uncarried.{eager, one_after_the_other}

-- the counter is a development
abbrev pub CounterIsDevelopment : Type 0
CounterIsDevelopment = IsDevelopment counter

-- after setmax the counter is at 10 and at no other number
abbrev pub ReachesTen : Type 0
ReachesTen = (find : Finder) (a : Abstract) → Reach find counter (setmax ∷ []) ([] ∷ []) a ↔ (a ≡ int (pos 10) ∷ [])

-- get then answers 10, and nothing else
abbrev pub AnswersTen : Type 0
AnswersTen = (find : Finder) (us : List MathValue) →
    ((a : Abstract) × Reach find counter (setmax ∷ get ∷ []) ([] ∷ us ∷ []) a) ↔ (us ≡ int (pos 10) ∷ [])

-- setmax is legal where it has no precondition, and not where its precondition is never true
pub record LegalWhere : Type 0 where
  pub allowed : (find : Finder) → Legal find counter (setmax ∷ []) []
  pub not_allowed : (find : Finder) → Legal find forbidden (setmax ∷ []) [] → ⊥

-- ---- flat developments
-- the flattened of a lawful development is lawful, and no || is left
pub record FlattenedIsLawful : Type 0 where
  pub lawful : (dev : Development) → IsLawful dev → IsLawful (flattened dev)
  pub flat : (dev : Development) → IsFlatDevelopment (flattened dev)
  -- so the flattened of every development is lawful
  pub every : (dev : Development) → IsDevelopment dev → IsLawful (flattened dev)
  pub only_last : (dev : Development) → OnlyLastIsImplementation dev → OnlyLastIsImplementation (flattened dev)

-- what the flattened of a development runs, over the table with all copies, the development runs over its own, from the same state to
-- the same
pub record FlattenedRuns : Type 0 where
  pub init : (find : Finder) (dev : Development) → IsLawful dev → (k : ℕ) → k < length dev.levels → (e g : State) →
      Runs find (flattened dev).table (level_at (flattened dev) k).init e g → Runs find dev.table (level_at dev k).init e g
  pub operations : (find : Finder) (dev : Development) → IsLawful dev → (k : ℕ) → k < length dev.levels → (o : ℕ) → o < length dev.heads →
      (e g : State) → Runs find (flattened dev).table (body_at (flattened dev) k o).sub e g → Runs find dev.table (body_at dev k o).sub e g

-- where no || stands in the last level, flattening leaves it as it was, with its arrays and its cells
pub record FlattenedKeepsCells : Type 0 where
  pub level : (dev : Development) → IsLawful dev → LastIsFlat dev →
      level_at (flattened dev) (last (flattened dev)) ≡ level_at dev (last dev)
  pub arrays : (dev : Development) → IsLawful dev → LastIsFlat dev → arrays_of (flattened dev) ≡ arrays_of dev
  pub cells : (dev : Development) → IsLawful dev → LastIsFlat dev → (x : ℕ) →
      (cell_of (flattened dev) x ≡ cell_of dev x) × (cells_of (flattened dev) x ≡ cells_of dev x)
  pub count : (dev : Development) → IsLawful dev → LastIsFlat dev → cell_count (flattened dev) ≡ cell_count dev

-- a development in B0 is in B0 after flattening
abbrev pub FlattenedStaysInB0 : Type 0
FlattenedStaysInB0 = (dev : Development) → IsLawful dev → IsB0Development dev → IsB0Development (flattened dev)

-- ---- what must not carry
-- an implementation that runs where the machine does not end, and one that takes || as ;: both are developments
pub record AreNotCarried : Type 0 where
  pub eager_facts : IsDevelopment eager
  pub eager : (find : Finder) → Carries find eager 0 → ⊥
  pub other_facts : IsDevelopment one_after_the_other
  pub one_after_the_other : (find : Finder) → Carries find one_after_the_other 0 → ⊥

-- ---- runs of the last level
-- where each level carries the one above from equal values, a call of the last level's body is one of the machine's
abbrev pub CallsClimb : Type 0
CallsClimb = (find : Finder) (dev : Development) → IsKept find dev → ((j : ℕ) → suc j ≤ last dev → CarriesFromEqual find dev j) →
    (o : ℕ) → o < length dev.heads → (e : State) → StartsCall find dev o e → IsCalled find dev o e

-- so is its initialisation, where the levels above carry from all states
abbrev pub OpeningsClimb : Type 0
OpeningsClimb = (find : Finder) (dev : Development) → IsKept find dev → ((j : ℕ) → suc j < last dev → CarriesFlat find dev j) →
    LastCarriesFromEqual find dev → (e : State) → StartsOpening find dev e → IsOpened find dev e

-- ---- sizes of sets
-- what sizes leave of developments
pub record SizesKeepDevelopments : Type 0 where
  -- a development with any sizes is one
  pub development : (sizes : ℕ → ℕ) → AreSizes sizes → (dev : Development) → IsDevelopment dev → IsDevelopment (with_set_sizes sizes dev)
  -- where each set has a size there is one choice of sizes
  pub whole : (sizes : ℕ → ℕ) (dev : Development) → IsDevelopment dev → HasSizes dev.sets → with_set_sizes sizes dev ≡ dev
  -- each set has a size where there is an implementation, and where the elements of each are written
  pub complete : (dev : Development) → IsDevelopment dev → is_complete dev ≡ true → HasSizes dev.sets
  pub written : (dev : Development) → IsDevelopment dev → All (λ s. 0 < length s.elements) dev.sets → HasSizes dev.sets
  -- flattening makes no difference
  pub flat : (sizes : ℕ → ℕ) (dev : Development) → flattened (with_set_sizes sizes dev) ≡ with_set_sizes sizes (flattened dev)

-- what is said of the sizes is true
abbrev pub SizesHold : Type 0
SizesHold = (find : Finder) (dev : Development) → dev.sets ≡ dev.table.sets → (e : Environment) → e.table ≡ dev.table →
    AllHold find e (size_equations dev)
