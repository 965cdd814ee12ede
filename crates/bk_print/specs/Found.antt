-- What is found for the obligations of a development: scripts of proof for those that are open, and why one is left without.
use Rattle.std.specs.Prelude.{◌≡◌, ◌⊎◌, ℕ, Bool, true, false, ◌||◌, ◌==◌, if◌then◌else◌, List, [], ◌∷◌, ◌++◌, count_by, codes, decimal}
use Rattle.std.specs.List.{slice_get, flat_map}
use Rattle.std.specs.Option.{option_map_or}
use Rattle.bk_form.specs.Table.{Table}
use Rattle.bk_seq.specs.Sequents.{Sequent}
use Rattle.bk_kernel.specs.declared.rule.Rule.{Rule}
use Rattle.bk_kernel.specs.Derivations.{Derives}
use Rattle.bk_kernel.specs.Obvious.{is_obvious}
use Rattle.bk_raw.specs.Trees.ScriptTree.{RawScript}
use Rattle.bk_dev.specs.Development.{Development}
use Rattle.bk_p_proof.specs.Files.{AreScriptsOf}
use Rattle.bk_status.specs.declared.state.State.{State}
use Rattle.bk_status.specs.declared.state.State.TheVariants.{Obvious, Proved}
use Rattle.bk_status.specs.declared.table.Row.{Row}
use Rattle.bk_status.specs.States.{IsState}
use Rattle.bk_status.specs.Rows.{is_settled}
use Rattle.bk_auto.specs.Easy.{IsEasy}
use Rattle.bk_auto.specs.NewVariables.{HasNew}
use Rattle.bk_auto.specs.Named.{Brings}
use Rattle.bk_print.specs.declared.outcome.Outcome.{Outcome}
use Rattle.bk_print.specs.declared.outcome.Outcome.TheVariants.{Settled, Left, Script}
use Rattle.bk_print.specs.Text.{script_text}
use Rattle.bk_print.specs.declared.trial.Trial.{Trial}
use Rattle.bk_print.specs.declared.trial.Trial.TheVariants.{Proves, TooLong, TooHigh, Fails}
use Rattle.bk_print.specs.Readable.{ScriptReads}
use Rattle.bk_print.specs.InScope.{IsReadInScope, IsTooLong, IsTooHigh, IsFull}

-- ---- scripts
-- with this text as its only proof file the obligation is proved; of a development whose substitutions are flat
pub record ProvesAlone (dev : Development) (o : List ℕ × Sequent) (text : List ℕ) : Type 0 where
  pub scripts : List RawScript
  pub read : AreScriptsOf (text ∷ []) scripts
  pub proved : IsState dev scripts o.0 o.1 Proved

-- rules that derive the obligation, over the development's table with new variables after the old ones, which bring these and name nothing
-- else but parts of the goal; and this is their text. Where the obligation reads back in its scope the rules do, unless the table is full
pub record IsTextOfProof (dev : Development) (o : List ℕ × Sequent) (text : List ℕ) : Type 0 where
  pub table : Table
  pub rules : List Rule
  pub new : HasNew dev.table table
  pub derives : Derives table rules o.1
  pub brings : Brings dev.table table o.1.1 rules
  pub written : text ≡ script_text table o.0 rules
  pub reads : (s : IsReadInScope dev o) → ScriptReads dev s.name rules new.more ⊎ IsFull table

-- the text is a script for the obligation: it proves it, or is too long for a proof file
pub record IsScriptFor (dev : Development) (o : List ℕ × Sequent) (text : List ℕ) : Type 0 where
  pub found : IsTextOfProof dev o text
  pub proves : IsTooLong text ⊎ ProvesAlone dev o text

-- the text of such rules does not prove the obligation. Where this is not obvious and reads back in its scope, that is since the text is too
-- high for a proof file, or since the table is full
pub record ReadsOtherwise (dev : Development) (o : List ℕ × Sequent) : Type 0 where
  pub text : List ℕ
  pub proof : IsTextOfProof dev o text
  pub other : ProvesAlone dev o text → ⊥
  pub limit : is_obvious o.1.0 o.1.1 ≡ false → IsReadInScope dev o → IsTooHigh text ⊎ IsFull proof.table

-- what a text is for an obligation as its only proof file
abbrev pub IsTrial : Development → List ℕ × Sequent → List ℕ → Trial → Type 0
IsTrial dev o text Proves = ProvesAlone dev o text
IsTrial dev o text TooLong = IsTooLong text
IsTrial dev o text TooHigh = IsTooHigh text
IsTrial dev o text Fails = (ProvesAlone dev o text → ⊥) × (IsTooLong text → ⊥) × (IsTooHigh text → ⊥)

-- of a text that passes the limit with this number
abbrev pub trial_past : ℕ → Trial
trial_past number = if number == 2 || number == 8 then TooLong else TooHigh

-- an obligation is left where it is not easy, or where what is found for it reads otherwise
abbrev pub IsLeft : Development → List ℕ × Sequent → Type 0
IsLeft dev o = (IsEasy dev.table o.1 → ⊥) ⊎ ReadsOtherwise dev o

-- ---- all obligations
-- for an obligation in this state: nothing where it is obvious or proved; else a script, or that it is left
abbrev pub IsFoundFor : Development → List ℕ × Sequent → State → Outcome → Type 0
IsFoundFor dev o state Settled = is_settled state ≡ true
IsFoundFor dev o state (Script text) = (is_settled state ≡ false) × IsScriptFor dev o text.items
IsFoundFor dev o state Left = (is_settled state ≡ false) × IsLeft dev o

-- one for each obligation, in order, by the rows of a status table
abbrev pub AreFound : Development → List (List ℕ × Sequent) → List Row → List Outcome → Type 0
AreFound dev [] [] [] = Unit {0}
AreFound dev (o ∷ os) (r ∷ rs) (x ∷ xs) = IsFoundFor dev o r.state x × AreFound dev os rs xs
AreFound dev _ _ _ = ⊥

-- the state in the row with this index; there is one for each obligation
abbrev pub state_at : List Row → ℕ → State
state_at rows n = option_map_or (λ r. r.state) (slice_get rows n) Obvious

-- ---- the text
-- the script that is written
abbrev pub script_of : Outcome → List ℕ
script_of (Script text) = text.items
script_of _ = []

-- whether there is one
abbrev pub is_script : Outcome → Bool
is_script (Script text) = true
is_script _ = false

-- whether the obligation is left
abbrev pub is_left : Outcome → Bool
is_left Left = true
is_left _ = false

-- `// 5 found, 0 left`: the scripts that are written, and the other obligations that are open
abbrev pub sums_text : List Outcome → List ℕ
sums_text outcomes =
    codes "// " ++ decimal (count_by is_script outcomes) ++ codes " found, " ++ decimal (count_by is_left outcomes) ++ codes " left\n"

-- the scripts one after another, and then that comment
abbrev pub found_text : List Outcome → List ℕ
found_text outcomes = flat_map script_of outcomes ++ sums_text outcomes
