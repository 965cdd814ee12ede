-- The answer of `bkit`, as the words and the told files have it.
use Rattle.std.specs.Prelude.{◌≡◌, ℕ, ◌⊎◌, List, Option}
use Rattle.bk_io.specs.Files.{Files}
use Rattle.bk_io.specs.Pieces.{Piece, PutWhole, WroteFront, written_with}
use Rattle.bk_verbs.specs.declared.status.Status.{Status}
use Rattle.bk_verbs.specs.declared.status.Status.TheVariants.{Done, ReadFault, WriteFault, Memory}
use Rattle.bk_verbs.specs.declared.stop.Stop.{Stop}
use Rattle.bk_cli.specs.Tasks.{Task, find_task, Asks}
use Rattle.bk_verbs.specs.Stops.{StopsAt, status_of_stop, stop_text}
use Rattle.bk_verbs.specs.Work.{IsWork, PutsWork}

-- the words ask for a task that no check stops, and it gives this status and this text
abbrev pub IsWorkOf : Files → List (List ℕ) → Status → List ℕ → Type 0
IsWorkOf files words status text = (task : Task) × Asks words task × IsWork files task status text

-- the status and the text: of the first check that fails, in their order, or else of the work
abbrev pub IsAnswer : Files → List (List ℕ) → Status → List ℕ → Type 0
IsAnswer files words status text =
    ((stop : Stop) × StopsAt files words stop × (status ≡ status_of_stop stop) × (text ≡ stop_text stop)) ⊎ IsWorkOf files words status text

-- the statuses but those of a fault of a device and of want of memory
abbrev pub IsAnswered : Status → Type 0
IsAnswered ReadFault = ⊥
IsAnswered WriteFault = ⊥
IsAnswered Memory = ⊥
IsAnswered _ = Unit {0}

-- `find`: any scripts that prove open obligations may be found, so that it may give several texts
abbrev pub IsFinding : Task → Type 0
IsFinding (find_task project) = Unit {0}
IsFinding _ = ⊥

-- the words ask for scripts
abbrev pub AskForScripts : List (List ℕ) → Type 0
AskForScripts words = (task : Task) × Asks words task × IsFinding task

-- and the search for them is done
abbrev pub HasFound : List (List ℕ) → Status → Type 0
HasFound words status = AskForScripts words × (status ≡ Done)

-- the status is that of the one answer, whose text is written after what had been written; of scripts that are found there may be
-- several texts, of which this is one
pub record WritesAnswer (files : Files) (words : List (List ℕ)) (old new : Option (List ℕ)) (status : Status) : Type 0 where
  pub text : List ℕ
  pub answer : IsAnswer files words status text
  pub only : (other : Status) (other_text : List ℕ) → IsAnswer files words other other_text →
      (other ≡ status) × ((HasFound words status → ⊥) → other_text ≡ text)
  pub appended : new ≡ written_with old text

-- nothing is written, or a front of the text of an answer
abbrev pub WroteFrontOfAnswer : Files → List (List ℕ) → (old new : Option (List ℕ)) → Type 0
WroteFrontOfAnswer files words old new =
    (new ≡ old) ⊎ ((status : Status) × (text : List ℕ) × IsAnswer files words status text × WroteFront text old new)

-- the status is that of a stop, and its line is written after what had been written
abbrev pub WritesLine : Status → (old new : Option (List ℕ)) → Type 0
WritesLine status old new = (stop : Stop) × (status ≡ status_of_stop stop) × (new ≡ written_with old (stop_text stop))

-- what is put where the program answers: the line of the check that stops it, as one piece, or what its task puts
abbrev pub PutsAnswer : Files → List (List ℕ) → (old new : Option (List Piece)) → Status → Type 0
PutsAnswer files words old new status =
    ((stop : Stop) × StopsAt files words stop × (status ≡ status_of_stop stop) × PutWhole (stop_text stop) old new) ⊎
    ((task : Task) × Asks words task × PutsWork files task old new status)
