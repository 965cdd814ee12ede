-- Status tables: one row for each obligation of a development.
use Rattle.std.specs.Prelude.{◌≡◌, ◌⊎◌, ℕ, Bool, true, false, not, List, Option, None, find}
use Rattle.std.specs.List.{AllZip}
use Rattle.bk_form.specs.Search.{Finder, IsSearch}
use Rattle.bk_dev.specs.Development.{Development}
use Rattle.bk_form.specs.Each.{Each}
use Rattle.bk_dev.specs.Flattened.{flattened}
use Rattle.bk_seq.specs.Sequents.{Sequent}
use Rattle.bk_po.specs.Obligations.{numbered_obligations}
use Rattle.bk_po.specs.Laws.{IsCorrectForAllSizes}
use Rattle.bk_raw.specs.Trees.ScriptTree.{RawScript}
use Rattle.bk_status.specs.States.{IsState}
use Rattle.bk_status.specs.declared.state.State.{State}
use Rattle.bk_status.specs.declared.state.State.TheVariants.{Obvious, Proved}
use Rattle.bk_status.specs.declared.table.Row.{Row}

-- a row for the obligation with this name and sequent: it has the name and the state; of a development whose substitutions are flat
pub record IsRowOf (dev : Development) (scripts : List RawScript) (o : List ℕ × Sequent) (row : Row) : Type 0 where
  pub name : row.name ≡ o.0
  pub state : IsState dev scripts o.0 o.1 row.state

-- each numbered obligation has one row, in order
abbrev pub HasRows : Development → List RawScript → List Row → Type 0
HasRows dev scripts rows = AllZip (IsRowOf (flattened dev) scripts) (numbered_obligations dev) rows

-- ---- rows that need no more work
-- the obligation is obvious or proved
abbrev pub is_settled : State → Bool
is_settled Obvious = true
is_settled Proved = true
is_settled _ = false

-- the first row that is neither obvious nor proved
abbrev pub first_open : List Row → Option Row
first_open rows = find (λ row. not (is_settled row.state)) rows

-- where no row is open the development is correct: the machine keeps its invariant, each level
-- carries the one above, the constants' values meet the properties, and what is stated is defined
abbrev pub ShowCorrect : Development → List Row → Type 0
ShowCorrect dev rows = first_open rows ≡ None → (find : Finder) → IsSearch find → IsCorrectForAllSizes find dev

-- ---- obligations that need no more work
-- the obligation with this name and sequent is obvious or has a replayed proof: it has a script, and the rules that the script stands for
-- derive it
abbrev pub IsProved : Development → List RawScript → List ℕ × Sequent → Type 0
IsProved dev scripts o = IsState (flattened dev) scripts o.0 o.1 Obvious ⊎ IsState (flattened dev) scripts o.0 o.1 Proved

-- each numbered obligation is obvious or has a replayed proof
abbrev pub AreProved : Development → List RawScript → Type 0
AreProved dev scripts = Each (IsProved dev scripts) (numbered_obligations dev)
