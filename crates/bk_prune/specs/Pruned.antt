-- Proof files that have lost rules, and prove what they proved.
use Rattle.std.specs.Prelude.{◌≡◌, ◌⊎◌, ◌↔◌, ◌<◌, ◌≤◌, ◌^◌, ℕ, List, [], ◌∷◌, length, map, find, All, Option, Some}
use Rattle.std.specs.List.{AllZip, remove}
use Rattle.std.specs.Str.{bytes_eq}
use Rattle.bk_form.specs.Table.{Table}
use Rattle.bk_form.specs.Each.{Each}
use Rattle.bk_dev.specs.Development.{Development}
use Rattle.bk_dev.specs.Flattened.{flattened}
use Rattle.bk_seq.specs.Sequents.{sequent_of}
use Rattle.bk_raw.specs.Trees.ScriptTree.{RawScript}
use Rattle.bk_p_proof.specs.Files.{AreScriptsOf}
use Rattle.bk_po.specs.Shown.{named_sequent}
use Rattle.bk_po.specs.declared.obligation.Obligation.{Obligation}
use Rattle.bk_kernel.specs.Derivations.{Derives}
use Rattle.bk_kernel.specs.declared.rule.Rule.{Rule}
use Rattle.bk_scripts.specs.Grounding.{IsGrounded}
use Rattle.bk_status.specs.States.{name_text}
use Rattle.bk_status.specs.Rows.{HasRows}
use Rattle.bk_status.specs.Replayable.{IsReplayable}
use Rattle.bk_status.specs.declared.table.Row.{Row}
use Rattle.bk_prune.specs.declared.work.Work.{Work}

-- ---- what is written
-- a script with the same name, and with no more rules
pub record IsNoLonger (old new : RawScript) : Type 0 where
  pub named : name_text new.name ≡ name_text old.name
  pub shorter : length new.rules ≤ length old.rules

-- with these scripts and with those the status table of the development is the same
pub record HaveSameRows (dev : Development) (before after : List RawScript) : Type 0 where
  pub rows : List Row
  pub rows_before : HasRows dev before rows
  pub rows_after : HasRows dev after rows

-- the text reads as scripts that have the names of these, in the same order, and none of which is longer; and with them alone the status
-- table of the development is the one that these make
pub record HasStatesOf (dev : Development) (before : List RawScript) (text : List ℕ) : Type 0 where
  pub after : List RawScript
  pub reads : AreScriptsOf (text ∷ []) after
  pub each : AllZip IsNoLonger before after
  pub same : HaveSameRows dev before after

-- the new text reads as scripts that prove what those of the old text proved; a text for which this does not hold stays as it is
abbrev pub IsPrunedFile : Development → List ℕ → List ℕ → Type 0
IsPrunedFile dev text pruned =
    (pruned ≡ text) ⊎ ((before : List RawScript) × AreScriptsOf (text ∷ []) before × HasStatesOf dev before pruned)

-- ---- scripts that prove something
-- the first obligation of a list that has the name of the script
abbrev pub obligation_for : List Obligation → RawScript → Option Obligation
obligation_for list script = find (λ o. bytes_eq (name_text script.name) o.name) list

-- the rules that the script stands for derive its sequent
pub record ProvesOne (dev : Development) (list : List Obligation) (script : RawScript) : Type 0 where
  pub obligation : Obligation
  pub is_for : obligation_for list script ≡ Some obligation
  pub rules : List Rule
  pub table : Table
  pub grounded : IsGrounded (flattened dev) script rules table
  pub derives : Derives table rules (sequent_of obligation.sequent)

-- ---- scripts that need each of their rules
-- without one rule, the one after the first k, those that the script stands for derive its sequent
pub record ProvesWithout (dev : Development) (list : List Obligation) (script : RawScript) (k : ℕ) : Type 0 where
  pub obligation : Obligation
  pub is_for : obligation_for list script ≡ Some obligation
  pub rules : List Rule
  pub table : Table
  pub grounded : IsGrounded (flattened dev) script rules table
  pub within : k < length rules
  pub derives : Derives table (remove rules k) (sequent_of obligation.sequent)

-- none of its rules can be left out where the others stay as they are
abbrev pub NeedsEachRule : Development → List Obligation → RawScript → Type 0
NeedsEachRule dev list script = (k : ℕ) → ProvesWithout dev list script k → ⊥

-- it proves, and needs each rule for that
pub record IsFinished (dev : Development) (list : List Obligation) (script : RawScript) : Type 0 where
  pub proves : ProvesOne dev list script
  pub needs : NeedsEachRule dev list script

-- none of a text's scripts is counted exactly where each proves its obligation of the list and needs each of its rules for that
abbrev pub CountsLeft : Development → List Obligation → List ℕ → ℕ → Type 0
CountsLeft dev list text left =
    (scripts : List RawScript) → AreScriptsOf (text ∷ []) scripts → (left ≡ 0) ↔ All (IsFinished dev list) scripts

-- ---- what a plan is made of
-- the table of a development's obligations, and obligations on which rules are replayed
pub record IsReady (dev : Development) (table : Table) (list : List Obligation) : Type 0 where
  pub table_is : table ≡ (flattened dev).table
  pub replayable : Each (λ o. IsReplayable table o.1) (map named_sequent list)

-- the rules that the script stands for and the sequent of its obligation, on which they are replayed
pub record IsWork (dev : Development) (list : List Obligation) (script : RawScript) (work : Work) : Type 0 where
  pub obligation : Obligation
  pub is_for : obligation_for list script ≡ Some obligation
  pub own : sequent_of work.sequent ≡ sequent_of obligation.sequent
  pub grounded : IsGrounded (flattened dev) script work.rules.items work.table
  pub replayable : IsReplayable work.table (sequent_of work.sequent)
  pub countable : length work.rules.items < 2 ^ 32
