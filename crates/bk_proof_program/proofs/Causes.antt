-- What stops bkit at a project.
use Rattle.std.proofs.Common.{◌⊎◌, inl, inr, ℕ, List, true, Result, Ok, Err}
use Rattle.std.specs.Prelude.{IfOk, IsErrAnd}
use Rattle.bk_cli.specs.Tasks.{status_task}
use Rattle.bk_dev.specs.Development.{Development}
use Rattle.bk_io.specs.Files.{Files}
use Rattle.bk_raw.specs.Trees.ScriptTree.{RawScript}
use Rattle.bk_verbs.specs.Project.{ReadsProject}
use Rattle.bk_verbs.specs.Stops.{IsOutside, StopsAtProject, StopsPastLimits, StopsTask}
use Rattle.bk_verbs.specs.declared.stop.Stop.{Stop}

-- its files stop its status
pub at_project : (files : Files) (project : List ℕ) (stop : Stop) → IsOutside stop ⊎ StopsAtProject true files project stop → IsOutside stop ⊎ StopsTask files (status_task project) stop
at_project files project stop (inl o) = inl o
at_project files project stop (inr h) = inr (inl h)

-- and so do the limits of its obligations
pub at_limits : (files : Files) (project : List ℕ) (dev : Development) (scripts : List RawScript) (stop : Stop) → ReadsProject true files project dev scripts →
    IsOutside stop ⊎ StopsPastLimits project dev stop → IsOutside stop ⊎ StopsTask files (status_task project) stop
at_limits files project dev scripts stop reads (inl o) = inl o
at_limits files project dev scripts stop reads (inr h) = inr (inr (dev, scripts, reads, h))

-- an error has no value
pub no_value : {T : Type 0} (r : Result T Stop) (P : Stop → Type 0) (Q : T → Type 0) → IsErrAnd r P → IfOk r Q
no_value (Ok t) P Q h = absurd h
no_value (Err s) P Q h = tt
