-- What a task gives where no check stops it, a case a verb.
use Rattle.std.specs.Prelude.{◌≡◌, ℕ, true, false, List, ◌++◌, map, Option}
use Rattle.bk_io.specs.Files.{Files}
use Rattle.bk_io.specs.Pieces.{Piece, PutWhole, written_with}
use Rattle.bk_code.specs.declared.image.Image.{Image}
use Rattle.bk_code.specs.Session.{Request, Told, Session}
use Rattle.bk_image.specs.Encoding.{Encodes}
use Rattle.bk_raw.specs.Trees.ScriptTree.{RawScript}
use Rattle.bk_dev.specs.Development.{Development, is_complete}
use Rattle.bk_b0.specs.Translation.{translation}
use Rattle.bk_dev.specs.Flattened.{flattened}
use Rattle.bk_po.specs.Obligations.{obligations, numbered_obligations}
use Rattle.bk_po.specs.Limits.{PassNoLimit}
use Rattle.bk_status.specs.declared.table.Row.{Row}
use Rattle.bk_status.specs.Rows.{HasRows}
use Rattle.bk_print.specs.declared.outcome.Outcome.{Outcome}
use Rattle.bk_print.specs.Found.{AreFound, found_text}
use Rattle.bk_calls.specs.Transcript.{transcript}
use Rattle.bk_verbs.specs.declared.status.Status.{Status}
use Rattle.bk_verbs.specs.declared.status.Status.TheVariants.{Done, Trapped, OutOfFuel}
use Rattle.bk_cli.specs.Tasks.{Task, check_task, status_task, po_task, find_task, code_task, build_task}
use Rattle.bk_cli.specs.Tasks.{run_task, exec_task, sample_task, has_proofs}
use Rattle.bk_verbs.specs.Project.{IsToldAsBytes, ReadsProject, IsFinished, IsWithinCodeLimits, ReadsCalls}
use Rattle.bk_report.specs.Check.{check_text}
use Rattle.bk_report.specs.Table.{table_text}
use Rattle.bk_report.specs.Obligations.{obligation_text, obligations_text}
use Rattle.bk_report.specs.Listing.{listing}
use Rattle.bk_verbs.specs.Puts.{PutsEach}
use Rattle.bk_verbs.specs.Session.{session_status, transcript_lines}
use Rattle.bk_verbs.specs.Samples.{sample_files, sample_project, sample_table, sample_run, last_line}

-- the statuses of work that is done: of all that was asked for, or up to a call that is not done
abbrev pub IsExecuted : Status → Type 0
IsExecuted Done = Unit {0}
IsExecuted Trapped = Unit {0}
IsExecuted OutOfFuel = Unit {0}
IsExecuted _ = ⊥

-- ---- parts
-- the text is the status table of the development, whose obligations pass no limit
pub record IsTable (dev : Development) (scripts : List RawScript) (text : List ℕ) : Type 0 where
  pub within : PassNoLimit (obligations dev)
  pub rows : List Row
  pub are : HasRows dev scripts rows
  pub text_is : text ≡ table_text rows

-- the text is that of the development's obligations, which pass no limit; their names are those of the development's variables and of
-- the copies that flattening makes
pub record ShowsObligations (dev : Development) (text : List ℕ) : Type 0 where
  pub within : PassNoLimit (obligations dev)
  pub text_is : text ≡ obligations_text (flattened dev).table (numbered_obligations dev)

-- the text is that of scripts for obligations of the development that are neither obvious nor proved, which pass no limit: of each, in
-- order, a script that proves it, or else it is left; and at the end how many there are of both
pub record ShowsScripts (dev : Development) (scripts : List RawScript) (text : List ℕ) : Type 0 where
  pub within : PassNoLimit (obligations dev)
  pub rows : List Row
  pub are : HasRows dev scripts rows
  pub outcomes : List Outcome
  pub found : AreFound (flattened dev) (numbered_obligations dev) rows outcomes
  pub text_is : text ≡ found_text outcomes

-- the text is the listing of the implementation's code
pub record IsListing (dev : Development) (text : List ℕ) : Type 0 where
  pub complete : is_complete dev ≡ true
  pub short : IsWithinCodeLimits (translation dev)
  pub text_is : text ≡ listing (translation dev)

-- the bytes are those of the translation's image, of a development whose obligations are proved
pub record IsBuilt (dev : Development) (scripts : List RawScript) (bytes : List ℕ) : Type 0 where
  pub finished : IsFinished dev scripts
  pub short : IsWithinCodeLimits (translation dev)
  pub encodes : Encodes bytes (translation dev)

-- the text is the transcript of the image's session over the calls that the script asks for, and the status that of its last end
pub record IsPlayed (files : Files) (calls : List ℕ) (fuel : ℕ) (image : Image) (status : Status) (text : List ℕ) : Type 0 where
  pub requests : List Request
  pub asks : ReadsCalls files calls image requests
  pub tolds : List Told
  pub session : Session image fuel requests tolds
  pub last : status ≡ session_status tolds
  pub transcript_is : text ≡ transcript image fuel requests tolds

-- it is so of the translation, of a development whose obligations are proved
pub record IsRun (files : Files) (calls : List ℕ) (fuel : ℕ) (dev : Development)
    (scripts : List RawScript) (status : Status) (text : List ℕ) : Type 0 where
  pub finished : IsFinished dev scripts
  pub short : IsWithinCodeLimits (translation dev)
  pub played : IsPlayed files calls fuel (translation dev) status text

-- and it is so of the image that the bytes of a file encode
pub record IsExec (files : Files) (image calls : List ℕ) (fuel : ℕ) (status : Status) (text : List ℕ) : Type 0 where
  pub bytes : List ℕ
  pub told : IsToldAsBytes files image bytes
  pub loaded : Image
  pub encodes : Encodes bytes loaded
  pub played : IsPlayed files calls fuel loaded status text

-- the project is read as a development whose obligations are proved, with these rows in its status table; the image is that of its
-- translation, within the limits of code, and these calls are what the call script asks of it for
pub record IsMadeReady (files : Files) (project calls : List ℕ) (rows : List Row) (image : Image) (requests : List Request) : Type 0 where
  pub dev : Development
  pub scripts : List RawScript
  pub reads : ReadsProject true files project dev scripts
  pub finished : IsFinished dev scripts
  pub table : HasRows dev scripts rows
  pub image_is : image ≡ translation dev
  pub short : IsWithinCodeLimits (translation dev)
  pub asks : ReadsCalls files calls (translation dev) requests

-- ---- tasks
-- what the task gives where its project is read as this development and these scripts
abbrev pub IsGiven : Files → Task → Development → List RawScript → Status → List ℕ → Type 0
IsGiven files (check_task project) dev scripts status text = (status ≡ Done) × (text ≡ check_text dev)
IsGiven files (status_task project) dev scripts status text = (status ≡ Done) × IsTable dev scripts text
IsGiven files (po_task project) dev scripts status text = (status ≡ Done) × ShowsObligations dev text
IsGiven files (find_task project) dev scripts status text = (status ≡ Done) × ShowsScripts dev scripts text
IsGiven files (code_task project) dev scripts status text = (status ≡ Done) × IsListing dev text
IsGiven files (build_task project) dev scripts status text = (status ≡ Done) × IsBuilt dev scripts text
IsGiven files (run_task project calls fuel) dev scripts status text = IsRun files calls fuel dev scripts status text
IsGiven files (exec_task image calls fuel) dev scripts status text = ⊥
IsGiven files (sample_task variables) dev scripts status text = ⊥

-- the project is read, and that is given
pub record IsDoneOn (files : Files) (project : List ℕ) (task : Task) (status : Status) (text : List ℕ) : Type 0 where
  pub dev : Development
  pub scripts : List RawScript
  pub reads : ReadsProject (has_proofs task) files project dev scripts
  pub given : IsGiven files task dev scripts status text

-- the text is the last line of the sample's status table, and then that of the transcript of its run; the status is that of the run
pub record IsSampled (variables : ℕ) (status : Status) (text : List ℕ) : Type 0 where
  pub table : List ℕ
  pub tabled : IsDoneOn (sample_files variables) sample_project sample_table Done table
  pub transcript : List ℕ
  pub run : IsDoneOn (sample_files variables) sample_project sample_run status transcript
  pub text_is : text ≡ last_line table ++ last_line transcript

-- the status and the text of the task; a sample has files of its own
abbrev pub IsWork : Files → Task → Status → List ℕ → Type 0
IsWork files (check_task project) status text = IsDoneOn files project (check_task project) status text
IsWork files (status_task project) status text = IsDoneOn files project (status_task project) status text
IsWork files (po_task project) status text = IsDoneOn files project (po_task project) status text
IsWork files (find_task project) status text = IsDoneOn files project (find_task project) status text
IsWork files (code_task project) status text = IsDoneOn files project (code_task project) status text
IsWork files (build_task project) status text = IsDoneOn files project (build_task project) status text
IsWork files (run_task project calls fuel) status text = IsDoneOn files project (run_task project calls fuel) status text
IsWork files (exec_task image calls fuel) status text = IsExec files image calls fuel status text
IsWork files (sample_task variables) status text = IsSampled variables status text

-- work that is done writes what it gives after what had been written
pub record WritesWork (files : Files) (task : Task) (old new : Option (List ℕ)) (status : Status) : Type 0 where
  pub text : List ℕ
  pub work : IsWork files task status text
  pub appended : new ≡ written_with old text

-- ---- pieces
-- the text of the task is put as one piece
pub record PutsText (files : Files) (task : Task) (old new : Option (List Piece)) (status : Status) : Type 0 where
  pub text : List ℕ
  pub work : IsWork files task status text
  pub put : PutWhole text old new

-- the texts of the development's obligations, which pass no limit, are put one by one
pub record PutsObligations (files : Files) (project : List ℕ) (old new : Option (List Piece)) : Type 0 where
  pub dev : Development
  pub scripts : List RawScript
  pub reads : ReadsProject false files project dev scripts
  pub within : PassNoLimit (obligations dev)
  pub puts : PutsEach (map (obligation_text (flattened dev).table) (numbered_obligations dev)) old new

-- the image's session over the calls that the script asks for is played, and each line of its transcript is put as one piece
pub record PutsPlayed (files : Files) (calls : List ℕ) (fuel : ℕ) (image : Image)
    (old new : Option (List Piece)) (status : Status) : Type 0 where
  pub text : List ℕ
  pub played : IsPlayed files calls fuel image status text
  pub puts : PutsEach (transcript_lines image fuel played.requests played.tolds) old new

-- what a task puts: `run` and `exec` line by line, `po` an obligation at a time, and each other at once
abbrev pub PutsWork : Files → Task → (old new : Option (List Piece)) → Status → Type 0
PutsWork files (check_task project) old new status = PutsText files (check_task project) old new status
PutsWork files (status_task project) old new status = PutsText files (status_task project) old new status
PutsWork files (po_task project) old new status = (status ≡ Done) × PutsObligations files project old new
PutsWork files (find_task project) old new status = PutsText files (find_task project) old new status
PutsWork files (code_task project) old new status = PutsText files (code_task project) old new status
PutsWork files (build_task project) old new status = PutsText files (build_task project) old new status
PutsWork files (run_task project calls fuel) old new status =
    (dev : Development) × (scripts : List RawScript) × ReadsProject true files project dev scripts
    × PutsPlayed files calls fuel (translation dev) old new status
PutsWork files (exec_task image calls fuel) old new status =
    (bytes : List ℕ) × (loaded : Image) × IsToldAsBytes files image bytes × Encodes bytes loaded
    × PutsPlayed files calls fuel loaded old new status
PutsWork files (sample_task variables) old new status = PutsText files (sample_task variables) old new status
