-- What `prune` answers.
use Rattle.std.specs.Prelude.{◌≡◌, ℕ, zero, suc, true, List, map, Option, Some, None, find}
use Rattle.std.specs.Str.{bytes_eq}
use Rattle.bk_io.specs.Files.{Files}
use Rattle.bk_dev.specs.Development.{Development}
use Rattle.bk_po.specs.Obligations.{numbered_obligations}
use Rattle.bk_po.specs.Shown.{named_sequent}
use Rattle.bk_po.specs.declared.obligation.Obligation.{Obligation}
use Rattle.bk_raw.specs.Trees.ScriptTree.{RawScript}
use Rattle.bk_front.specs.declared.project_file.ProjectLine.{ProjectLine}
use Rattle.bk_front.specs.ProjectFile.{AreLinesOf}
use Rattle.bk_prune.specs.Pruned.{IsPrunedFile, CountsLeft}
use Rattle.bk_verbs.specs.Project.{IsTold, ReadsProject, proof_files}
use Rattle.bk_verbs.specs.declared.status.Status.{Status}
use Rattle.bk_verbs.specs.declared.status.Status.TheVariants.{Done, Usage, Unproved}

-- done where no script is left that does not prove, or that does not need each of its rules
abbrev pub status_with : ℕ → Status
status_with zero = Done
status_with (suc n) = Unproved

-- the text is the file's without rules that nothing uses, and proves what that proves; where the end is done, each of its scripts proves,
-- and none of its rules can be left out
pub record IsPruned (files : Files) (dev : Development) (file text : List ℕ) (status : Status) : Type 0 where
  pub old : List ℕ
  pub told : IsTold files file old
  pub pruned : IsPrunedFile dev old text
  pub list : List Obligation
  pub listed : map named_sequent list ≡ numbered_obligations dev
  pub left : ℕ
  pub counts : CountsLeft dev list text left
  pub ends : status ≡ status_with left

-- of a proof file that a line names; words for another file are wrong
abbrev pub IsPrunedIfNamed : Files → Development → (file : List ℕ) → Option (List ℕ) → List ℕ → Status → Type 0
IsPrunedIfNamed files dev file None text status = status ≡ Usage
IsPrunedIfNamed files dev file (Some name) text status = IsPruned files dev file text status

-- that is so of what the files tell
pub record IsPruneOf (files : Files) (project file text : List ℕ) (status : Status) : Type 0 where
  pub development : Development
  pub scripts : List RawScript
  pub reads : ReadsProject true files project development scripts
  pub project_text : List ℕ
  pub told : IsTold files project project_text
  pub named : List ProjectLine
  pub lines : AreLinesOf project_text named
  pub pruned : IsPrunedIfNamed files development file (find (λ name. bytes_eq file name) (proof_files named)) text status
