-- What status tables are worth, as statements.
use Rattle.std.specs.Prelude.{◌≡◌, ℕ, List, None}
use Rattle.bk_form.specs.Search.{Finder, IsSearch}
use Rattle.bk_seq.specs.Sequents.{Sequent}
use Rattle.bk_dev.specs.Development.{Development}
use Rattle.bk_dev.specs.Facts.{IsDevelopment}
use Rattle.bk_po.specs.Obligations.{HasValidObligations}
use Rattle.bk_po.specs.Laws.{IsCorrectForAllSizes}
use Rattle.bk_raw.specs.Trees.ScriptTree.{RawScript}
use Rattle.bk_status.specs.declared.state.State.{State}
use Rattle.bk_status.specs.declared.table.Row.{Row}
use Rattle.bk_status.specs.States.{IsState}
use Rattle.bk_status.specs.Rows.{HasRows, first_open, AreProved}
use Rattle.bk_status.specs.Obvious.{HasObviousObligations, HasShownObligations}

-- an obligation has one state at most
abbrev pub StatesAreOne : Type 0
StatesAreOne = (dev : Development) (scripts : List RawScript) (name : List ℕ) (s : Sequent) (one other : State) →
    IsState dev scripts name s one → IsState dev scripts name s other → one ≡ other

-- a development has one table at most
abbrev pub TablesAreOne : Type 0
TablesAreOne = (dev : Development) (scripts : List RawScript) (rows others : List Row) →
    HasRows dev scripts rows → HasRows dev scripts others → rows ≡ others

-- where the table has no open row, each obligation is obvious or has a replayed proof
abbrev pub ClosedTablesProve : Type 0
ClosedTablesProve = (dev : Development) (scripts : List RawScript) (rows : List Row) →
    HasRows dev scripts rows → first_open rows ≡ None → AreProved dev scripts

-- and where each is so, the table has no open row
abbrev pub ProvedTablesAreClosed : Type 0
ProvedTablesAreClosed = (dev : Development) (scripts : List RawScript) (rows : List Row) →
    HasRows dev scripts rows → AreProved dev scripts → first_open rows ≡ None

-- where the table has no open row, each obligation is valid
abbrev pub ClosedTablesAreValid : Type 0
ClosedTablesAreValid = (dev : Development) (scripts : List RawScript) (rows : List Row) →
    IsDevelopment dev → HasRows dev scripts rows → first_open rows ≡ None → HasValidObligations dev

-- where each obligation of a development is obvious or derived by rules, each is valid
abbrev pub ShownObligationsAreValid : Type 0
ShownObligationsAreValid = (dev : Development) → IsDevelopment dev → HasShownObligations dev → HasValidObligations dev

-- where every obligation is obvious, every obligation is valid
abbrev pub ObviousObligationsAreValid : Type 0
ObviousObligationsAreValid = (dev : Development) → IsDevelopment dev → HasObviousObligations dev → HasValidObligations dev

-- where each obligation of a development is obvious or has a replayed proof, each is valid
abbrev pub ProvedObligationsAreValid : Type 0
ProvedObligationsAreValid = (dev : Development) (scripts : List RawScript) →
    IsDevelopment dev → AreProved dev scripts → HasValidObligations dev

-- so that the development is correct
abbrev pub ProvedDevelopmentsAreCorrect : Type 0
ProvedDevelopmentsAreCorrect = (find : Finder) → IsSearch find → (dev : Development) (scripts : List RawScript) →
    IsDevelopment dev → AreProved dev scripts → IsCorrectForAllSizes find dev
