-- What the program writes.
use Rattle.std.specs.Prelude.{◌≡◌, ◌≢◌, ◌⊎◌, ℕ, List, ◌++◌, Option, Some, codes}
use Rattle.bk_io.specs.Files.{Files}
use Rattle.bk_io.specs.Pieces.{written_with}
use Rattle.bk_io.specs.Counts.{Rose}
use Rattle.bk_cli.specs.Tasks.{Task as Command, status_task}
use Rattle.bk_verbs.specs.Causes.{IsOfReading}
use Rattle.bk_verbs.specs.Codes.{code_of}
use Rattle.bk_verbs.specs.Prepared.{IsPrepared}
use Rattle.bk_verbs.specs.Stops.{IsCutShort, IsOutside, Reports, StopsTask, stop_text, status_of_stop}
use Rattle.bk_verbs.specs.declared.status.Status.{Status}
use Rattle.bk_verbs.specs.declared.status.Status.TheVariants.{Done, Usage, ReadFault, WriteFault}
use Rattle.bk_verbs.specs.declared.stop.Stop.{Stop}
use Rattle.bk_verbs.specs.declared.stop.Stop.TheVariants.{Usage as WrongWords}
use Rattle.bk_verbs.specs.declared.work.Work.{Work}
use Rattle.bk_proof_words.specs.Tasks.{AskForNothing, Asks}
use Rattle.bk_proof_words.specs.declared.task.Task.{Task}
use Rattle.bk_proof_words.specs.declared.task.Task.TheVariants.{Goal, List as ListTask, Explain, Prune, Report, Help, ManPage}
use Rattle.bk_proof_program.specs.Answers.{IsSaid}
use Rattle.bk_proof_program.specs.Explained.{task_with}
use Rattle.bk_proof_program.specs.Goals.{IsGoalOf}
use Rattle.bk_proof_program.specs.Prunes.{IsPruneOf}
use Rattle.bk_proof_program.specs.Settled.{HasStatus}
use Rattle.bk_proof_program.specs.Told.{IsListOf, IsReportOf}
use Rattle.bk_proof_program.specs.declared.help.TheConstants.{USAGE}
use Rattle.bk_proof_program.specs.declared.answer.Answer.{Answer}
use Rattle.bk_proof_program.specs.declared.answer.Answer.TheVariants.{Whole, Explained}

-- ---- answers
-- there is no fault, since bkit can do what is asked
abbrev pub IsNoFault : Files → Command → List ℕ → Status → Type 0
IsNoFault files asked text status = (text ≡ codes "no fault\n") × (status ≡ Done) × (work : Work) × IsPrepared files asked work

-- the text answers the task, and this is how the program ends; of `explain` where there is no fault
abbrev pub AnswersTask : Files → Task → List ℕ → Status → Type 0
AnswersTask files (Goal project name at) text status = IsGoalOf files project.now name.now at text status
AnswersTask files (ListTask project is_open_only as_json) text status =
    HasStatus files project.now status × IsListOf files project.now as_json is_open_only text
AnswersTask files (Explain file calls is_image) text status = IsNoFault files (task_with file.now is_image calls) text status
AnswersTask files (Prune project file) text status = IsPruneOf files project.now file.now text status
AnswersTask files (Report project form) text status = HasStatus files project.now status × IsReportOf files project.now form text
AnswersTask files Help text status = status ≡ Done
AnswersTask files ManPage text status = status ≡ Done

-- ---- stops
-- what stops bkit at the task: of a project what stops its status, and of `explain` what is asked about
abbrev pub StopsAnswer : Files → Task → Stop → Type 0
StopsAnswer files (Goal project name at) stop = StopsTask files (status_task project.now) stop
StopsAnswer files (ListTask project is_open_only as_json) stop = StopsTask files (status_task project.now) stop
StopsAnswer files (Explain file calls is_image) stop = StopsTask files (task_with file.now is_image calls) stop
StopsAnswer files (Prune project file) stop = StopsTask files (status_task project.now) stop
StopsAnswer files (Report project form) stop = StopsTask files (status_task project.now) stop
StopsAnswer files Help stop = ⊥
StopsAnswer files ManPage stop = ⊥

-- wrong words, or what stops bkit at the task that they ask for
abbrev pub StopsWords : Files → (words : List (List ℕ)) → Stop → Type 0
StopsWords files words stop = ((stop ≡ WrongWords) × AskForNothing words)
    ⊎ (IsOfReading stop × (task : Task) × Asks words task × StopsAnswer files task stop)

-- the answer to the task, or what stops bkit there
abbrev pub IsToldAnswer : Files → Task → Answer → Type 0
IsToldAnswer files task (Whole text status) = AnswersTask files task text.items status
IsToldAnswer files task (Explained stop text) = IsOutside stop ⊎ StopsAnswer files task stop

-- ---- what is written
-- the line of bkit at the stop, and then words; the status is that of the line
pub record TellsStop (stop : Stop) (old new : Option (List ℕ)) (status : Status) : Type 0 where
  pub words : List ℕ
  pub written : new ≡ written_with old (stop_text stop ++ words)
  pub ends : status ≡ status_of_stop stop

-- the text, with the status that goes with it, or the line of a stop and then words; or the program ends with what may be cut short
abbrev pub WritesAnswer : Answer → (old new : Option (List ℕ)) → Status → Type 0
WritesAnswer (Whole text ends) old new status = IsCutShort status ⊎ ((status ≡ ends) × (new ≡ written_with old text.items))
WritesAnswer (Explained stop text) old new status = IsCutShort status ⊎ TellsStop stop old new status

-- the line of wrong words, or that of bkit at another stop
abbrev pub WritesStop : Stop → (old new : Option (List ℕ)) → Status → Type 0
WritesStop stop old new status =
    ((stop ≡ WrongWords) × (IsCutShort status ⊎ ((status ≡ Usage) × (new ≡ written_with old USAGE.now))))
    ⊎ ((stop ≢ WrongWords) × Reports stop status old new)

-- a text that answers the task that the words ask for
pub record TellsAnswer (files : Files) (words : List (List ℕ)) (old new : Option (List ℕ)) (status : Status) : Type 0 where
  pub task : Task
  pub asks : Asks words task
  pub text : List ℕ
  pub answers : AnswersTask files task text status
  pub written : new ≡ written_with old text

-- the line of what stops bkit at that task
pub record TellsCause (files : Files) (words : List (List ℕ)) (old new : Option (List ℕ)) (status : Status) : Type 0 where
  pub task : Task
  pub asks : Asks words task
  pub stop : Stop
  pub stops : StopsAnswer files task stop
  pub tells : TellsStop stop old new status

-- the line of wrong words, which ask for nothing
pub record TellsUsage (words : List (List ℕ)) (old new : Option (List ℕ)) (status : Status) : Type 0 where
  pub nothing : AskForNothing words
  pub ends : status ≡ Usage
  pub written : new ≡ written_with old USAGE.now

-- one of these
abbrev pub IsWritten : Files → (words : List (List ℕ)) → (old new : Option (List ℕ)) → Status → Type 0
IsWritten files words old new status = TellsAnswer files words old new status
    ⊎ (TellsCause files words old new status ⊎ TellsUsage words old new status)

-- ---- exit codes
-- the code is that of a status with which this is written of what the files tell, and which tells no fault of a device that did not fail
pub record IsOutcome (told : Option Files) (words : List (List ℕ)) (old new : Option (List ℕ))
    (reads_before reads_now writes_before writes_now code : ℕ) : Type 0 where
  pub status : Status
  pub code_is : code ≡ code_of status
  pub written : IsSaid status → (files : Files) → told ≡ Some files → IsWritten files words old new status
  pub read_fault : status ≡ ReadFault → Rose reads_before reads_now
  pub write_fault : status ≡ WriteFault → Rose writes_before writes_now
