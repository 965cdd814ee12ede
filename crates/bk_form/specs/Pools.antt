-- Pools: lists of different formulas in which the parts of each stand before it (hash consing: A. P. Ershov, On programming of
-- arithmetic operations, 1958, has the list of different subexpressions, each after its operands).
use Rattle.std.specs.Prelude.{◌≡◌, ℕ, ◌<◌, List, ◌++◌, Some, slice_get}
use Rattle.bk_form.specs.Formula.{Formula}
use Rattle.bk_form.specs.Parts.{PartsAre, IsPart}

-- it stands in the list
abbrev pub Stands : List Formula → Formula → Type 0
Stands l f = (i : ℕ) × (slice_get l i ≡ Some f)

-- it stands before the place
abbrev pub StandsBefore : List Formula → ℕ → Formula → Type 0
StandsBefore l i g = (j : ℕ) × (j < i) × (slice_get l j ≡ Some g)

-- no formula stands twice, and the parts of each stand before it
pub record IsPool (l : List Formula) : Type 0 where
  pub different : (i j : ℕ) (f : Formula) → slice_get l i ≡ Some f → slice_get l j ≡ Some f → i ≡ j
  pub before : (i : ℕ) (f : Formula) → slice_get l i ≡ Some f → PartsAre (StandsBefore l i) f

-- the old list is a prefix of the new one
abbrev pub Continues : List Formula → List Formula → Type 0
Continues old new = (added : List Formula) × (new ≡ old ++ added)

-- the list afterwards is the old one, followed by parts of the formula that were not in it, and has all of them: a part is the formula
-- itself, or one of its operands, bodies, ranges and values, or a part of one of these
pub record IsShared (old : List Formula) (f : Formula) (new : List Formula) : Type 0 where
  pub added : List Formula
  pub continues : new ≡ old ++ added
  pub parts_alone : (i : ℕ) (g : Formula) → slice_get added i ≡ Some g → IsPart g f
  pub not_old : (i : ℕ) (g : Formula) → slice_get added i ≡ Some g → Stands old g → ⊥
  pub all_parts : (g : Formula) → IsPart g f → Stands new g
