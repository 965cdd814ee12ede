-- What `goal` answers.
use Rattle.std.specs.Prelude.{◌≡◌, ℕ, Bool, true, cond, List, Option, Some, None, option_map, find}
use Rattle.std.specs.Str.{bytes_eq}
use Rattle.bk_io.specs.Files.{Files}
use Rattle.bk_dev.specs.Development.{Development}
use Rattle.bk_dev.specs.Flattened.{flattened}
use Rattle.bk_seq.specs.Sequents.{Sequent}
use Rattle.bk_po.specs.Obligations.{numbered_obligations}
use Rattle.bk_raw.specs.Trees.ScriptTree.{RawScript}
use Rattle.bk_status.specs.States.{script_named}
use Rattle.bk_goal.specs.declared.asked.Found.{Found}
use Rattle.bk_goal.specs.Shown.{ShowsGoal}
use Rattle.bk_verbs.specs.Project.{ReadsProject}
use Rattle.bk_verbs.specs.declared.status.Status.{Status}
use Rattle.bk_verbs.specs.declared.status.Status.TheVariants.{Done, Usage, Unproved}

-- done where nothing is open
abbrev pub status_by : Bool → Status
status_by is_open = cond is_open Unproved Done

-- of the obligation with this name the text shows what is open after the rules that are asked for of the script with its name; words for
-- no obligation are wrong
abbrev pub ShowsNamed : Development → List RawScript → (name : List ℕ) → Option ℕ → Option (List ℕ × Sequent) → List ℕ → Status → Type 0
ShowsNamed dev scripts name at None text status = status ≡ Usage
ShowsNamed dev scripts name at (Some o) text status = (found : Option Found) × (is_open : Bool) ×
    (option_map (λ f. f.script.now) found ≡ script_named scripts name) ×
    ShowsGoal (flattened dev) found at o text is_open × (status ≡ status_by is_open)

-- that is so of what the files tell
pub record IsGoalOf (files : Files) (project name : List ℕ) (at : Option ℕ) (text : List ℕ) (status : Status) : Type 0 where
  pub development : Development
  pub scripts : List RawScript
  pub reads : ReadsProject true files project development scripts
  pub shows : ShowsNamed development scripts name at (find (λ o. bytes_eq name o.0) (numbered_obligations development)) text status
