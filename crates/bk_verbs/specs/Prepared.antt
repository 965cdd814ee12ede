-- What is left to write once a task's files are read and checked.
use Rattle.std.specs.Prelude.{◌≡◌, ℕ, ◌≤◌, true, false, List, All, length, map, Option}
use Rattle.bk_form.specs.Table.{Table}
use Rattle.bk_seq.specs.Sequents.{Sequent}
use Rattle.bk_raw.specs.Trees.ScriptTree.{RawScript}
use Rattle.bk_dev.specs.Development.{Development}
use Rattle.bk_dev.specs.Flattened.{flattened}
use Rattle.bk_po.specs.Obligations.{obligations, numbered_obligations}
use Rattle.bk_po.specs.Limits.{PassNoLimit}
use Rattle.bk_po.specs.Shown.{named_sequent}
use Rattle.bk_report.specs.Obligations.{obligations_text}
use Rattle.bk_b0.specs.Translation.{translation}
use Rattle.bk_image.specs.Encoding.{Encodes}
use Rattle.bk_verbs.specs.Project.{IsToldAsBytes, ReadsProject, ReadsCalls}
use Rattle.bk_limits.specs.declared.TheConstants.{MOST_CALLS}
use Rattle.bk_io.specs.Files.{Files}
use Rattle.bk_io.specs.Pieces.{WroteFront}
use Rattle.bk_code.specs.declared.image.Image.{Image}
use Rattle.bk_code.specs.Checks.{IsChecked}
use Rattle.bk_code.specs.Laws.{IsRequest}
use Rattle.bk_code.specs.Session.{Request, Told, Session}
use Rattle.bk_vm.specs.State.{State}
use Rattle.bk_calls.specs.Script.{request_of}
use Rattle.bk_calls.specs.Transcript.{transcript}
use Rattle.bk_verbs.specs.declared.status.Status.TheVariants.{Done}
use Rattle.bk_verbs.specs.declared.work.Work.{Work}
use Rattle.bk_verbs.specs.declared.work.Work.TheVariants.{Text, Ended, Obligations, Play}
use Rattle.bk_cli.specs.Tasks.{Task, po_task, run_task, exec_task, most_fuel}
use Rattle.bk_verbs.specs.Session.{session_status, PlaysFront}
use Rattle.bk_verbs.specs.Work.{IsExecuted, IsWork}

-- whatever a session of the image over the calls tells is what the task gives
abbrev pub IsSessionOf : Files → Task → Image → (fuel : ℕ) → List Request → Type 0
IsSessionOf files task image fuel requests =
    (tolds : List Told) → Session image fuel requests tolds →
    IsWork files task (session_status tolds) (transcript image fuel requests tolds)

-- a text that is left to write is what the task gives, with its status, and so is the transcript of a session that is left to play
abbrev pub IsPrepared : Files → Task → Work → Type 0
IsPrepared files task (Text text) = IsWork files task Done text.items
IsPrepared files task (Ended text status) = IsWork files task status text.items
IsPrepared files task (Obligations list table) = IsWork files task Done (obligations_text table (map named_sequent list.items))
IsPrepared files task (Play player calls fuel) = IsSessionOf files task player.image fuel (map request_of calls.items)

-- the task writes a text at once
abbrev pub GivesText : Task → Type 0
GivesText (po_task project) = ⊥
GivesText (run_task project calls fuel) = ⊥
GivesText (exec_task image calls fuel) = ⊥
GivesText _ = Unit {0}

-- the task writes obligations, and these are the ones of its project's development, with the names of the table
abbrev pub IsListOf : Files → Task → Table → List (List ℕ × Sequent) → Type 0
IsListOf files (po_task project) table list =
    (dev : Development) × (scripts : List RawScript) × ReadsProject false files project dev scripts ×
    PassNoLimit (obligations dev) × (table ≡ (flattened dev).table) × (list ≡ numbered_obligations dev)
IsListOf files _ table list = ⊥

-- the task asks to play this session: of the translation of the development that its project is read as, or of the image that the bytes of
-- its file encode; with its fuel, and over the calls that its script asks for
abbrev pub AsksToPlay : Files → Task → Image → (fuel : ℕ) → List Request → Type 0
AsksToPlay files (run_task project calls steps) image fuel requests =
    (dev : Development) × (scripts : List RawScript) × ReadsProject true files project dev scripts ×
    (image ≡ translation dev) × (fuel ≡ steps) × ReadsCalls files calls image requests
AsksToPlay files (exec_task file calls steps) image fuel requests =
    (bytes : List ℕ) × IsToldAsBytes files file bytes × Encodes bytes image × (fuel ≡ steps) × ReadsCalls files calls image requests
AsksToPlay files _ image fuel requests = ⊥

-- what is left to write is of the kind of the task: a text, its obligations, or the session that it asks to play
abbrev pub Suits : Files → Task → Work → Type 0
Suits files task (Text text) = GivesText task
Suits files task (Ended text status) = GivesText task
Suits files task (Obligations list table) = IsListOf files task table (map named_sequent list.items)
Suits files task (Play player calls fuel) = AsksToPlay files task player.image fuel (map request_of calls.items)

-- a machine that has not begun, whose image is never stuck, calls that it takes, not too many of them, and no more fuel than may be
-- asked for
pub record IsPlayable (player : State) (requests : List Request) (fuel : ℕ) : Type 0 where
  pub fresh : player.started ≡ false
  pub checked : IsChecked player.image
  pub asked : All (IsRequest player.image) requests
  pub few : length requests ≤ MOST_CALLS
  pub small : fuel ≤ most_fuel

-- it is so of a session that is left to play; one that is told of has ended
abbrev pub CanBePlayed : Work → Type 0
CanBePlayed (Text text) = Unit {0}
CanBePlayed (Ended text status) = IsExecuted status
CanBePlayed (Obligations list table) = Unit {0}
CanBePlayed (Play player calls fuel) = IsPlayable player (map request_of calls.items) fuel

-- what is written is a front of the text that is left to write, or of the transcript of the session that is left to play
abbrev pub WritesFront : Work → (old new : Option (List ℕ)) → Type 0
WritesFront (Text text) old new = WroteFront text.items old new
WritesFront (Ended text status) old new = WroteFront text.items old new
WritesFront (Obligations list table) old new = WroteFront (obligations_text table (map named_sequent list.items)) old new
WritesFront (Play player calls fuel) old new = PlaysFront player.image fuel (map request_of calls.items) old new
