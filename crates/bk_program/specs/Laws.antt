-- What holds of answers and of projects, as statements.
use Rattle.std.specs.Prelude.{◌≡◌, ◌≢◌, ◌↔◌, ℕ, ◌≤◌, true, List, length, Some}
use Rattle.bk_limits.specs.declared.TheConstants.{MOST_BYTES}
use Rattle.bk_io.specs.Bytes.{AreBytes}
use Rattle.bk_io.specs.Files.{Files, file_named}
use Rattle.bk_code.specs.Session.{Told, Session}
use Rattle.bk_form.specs.Search.{Finder, IsSearch}
use Rattle.bk_dev.specs.Development.{Development}
use Rattle.bk_b0.specs.Translation.{translation}
use Rattle.bk_sim.specs.Within.{EndsWithoutLoops}
use Rattle.bk_raw.specs.Trees.ScriptTree.{RawScript}
use Rattle.bk_verbs.specs.declared.status.Status.{Status}
use Rattle.bk_verbs.specs.declared.status.Status.TheVariants.{Done, Trapped}
use Rattle.bk_cli.specs.Tasks.{status_task, find_task, build_task, run_task, exec_task, Asks}
use Rattle.bk_program.specs.Legal.{AreLegal, RunNoLoop, LegalCallsEndWell}
use Rattle.bk_verbs.specs.Project.{HoldBytes, ReadsProject, IsFinished}
use Rattle.bk_program.specs.Run.{IsReady}
use Rattle.bk_verbs.specs.Session.{session_status}
use Rattle.bk_verbs.specs.declared.stop.Stop.{Stop}
use Rattle.bk_verbs.specs.Stops.{StopsTask}
use Rattle.bk_program.specs.Answer.{IsAnswer, AskForScripts, HasFound}

-- words and told files have one answer at most; of scripts that are found there may be several texts
abbrev pub HasOneAnswer : Type 0
HasOneAnswer =
    (files : Files) (words : List (List ℕ)) (status other : Status) (text other_text : List ℕ) → IsAnswer files words status text →
    IsAnswer files words other other_text → (status ≡ other) × ((HasFound words status → ⊥) → text ≡ other_text)

-- and where files hold bytes it cannot be that they have none; whether scripts can be found for all that is easy is no part of this
abbrev pub HasSomeAnswer : Type 0
HasSomeAnswer =
    (files : Files) (words : List (List ℕ)) → HoldBytes files → (AskForScripts words → ⊥) →
    ((status : Status) (text : List ℕ) → IsAnswer files words status text → ⊥) → ⊥

-- what stops `status` stops `find`, and nothing else does
abbrev pub FindStopsAsStatus : Type 0
FindStopsAsStatus = (files : Files) (project : List ℕ) (stop : Stop) →
    StopsTask files (find_task project) stop ↔ StopsTask files (status_task project) stop

-- words that ask to build a project, to run it, and to run an image, with one call script and one fuel
pub record AskOfOne (build_words run_words exec_words : List (List ℕ)) (project image calls : List ℕ) (fuel : ℕ) : Type 0 where
  pub build : Asks build_words (build_task project)
  pub run : Asks run_words (run_task project calls fuel)
  pub exec : Asks exec_words (exec_task image calls fuel)

-- `build` is done with these bytes, few enough for a file; among the other files the image has them, and the call script is the same
pub record IsImageBuilt (files others : Files) (build_words : List (List ℕ)) (image calls bytes : List ℕ) : Type 0 where
  pub done : IsAnswer files build_words Done bytes
  pub are : AreBytes bytes
  pub short : length bytes ≤ MOST_BYTES
  pub stands : file_named others image ≡ Some bytes
  pub same : file_named others calls ≡ file_named files calls

-- where `build` is done, `exec` on a file with the bytes that it writes has, with the same call script and fuel, the answer
-- of `run`; the bytes must be few enough for a file
abbrev pub BuiltImagesRun : Type 0
BuiltImagesRun =
    (files others : Files) (build_words run_words exec_words : List (List ℕ)) (project calls image bytes : List ℕ) (fuel : ℕ) →
    AskOfOne build_words run_words exec_words project image calls fuel → IsImageBuilt files others build_words image calls bytes →
    (status : Status) (text : List ℕ) → IsAnswer files run_words status text ↔ IsAnswer others exec_words status text

-- the initialisation of a project with an implementation whose obligations are proved, and each legal call, where no WHILE stands in
-- them, are done with a fuel equal to the length of their code, Ret included, and with every larger one; also where the call script is
-- at fault
abbrev pub ProjectsEnd : Type 0
ProjectsEnd =
    (files : Files) (project : List ℕ) (dev : Development) (scripts : List RawScript) →
    ReadsProject true files project dev scripts → IsFinished dev scripts →
    (find : Finder) → IsSearch find → EndsWithoutLoops find dev (translation dev)

-- of a session of a project the initialisation, and each call that is legal after those before it, leaves cells that are linked to a state
-- which the machine reaches with the replies, does not trap, out of fuel would end with more, and without WHILE is done with a fuel of at
-- least the length of its code; and where all are legal none traps, and where no WHILE is run all are done with one of at least the length
-- of the whole code
abbrev pub LegalCallsAreDone : Type 0
LegalCallsAreDone =
    (files : Files) (project calls : List ℕ) (fuel : ℕ) (ready : IsReady files project calls) (tolds : List Told) →
    Session (translation ready.dev) fuel ready.requests tolds → (find : Finder) → IsSearch find →
    LegalCallsEndWell find ready.dev fuel ready.requests tolds ×
    (AreLegal find ready.dev ready.requests tolds →
    (session_status tolds ≢ Trapped)
    × (RunNoLoop ready.dev ready.requests → length (translation ready.dev).code ≤ fuel → session_status tolds ≡ Done))
