-- Projects, and how much of them is left to prove.
use Rattle.std.specs.Prelude.{◌≡◌, ℕ, true, List, Option, Some, None}
use Rattle.bk_io.specs.Files.{Files}
use Rattle.bk_dev.specs.Development.{Development}
use Rattle.bk_raw.specs.Trees.ScriptTree.{RawScript}
use Rattle.bk_status.specs.Rows.{HasRows, first_open}
use Rattle.bk_status.specs.declared.table.Row.{Row}
use Rattle.bk_verbs.specs.Project.{ReadsProject}
use Rattle.bk_verbs.specs.declared.status.Status.{Status}
use Rattle.bk_verbs.specs.declared.status.Status.TheVariants.{Done, Unproved}

-- done where no obligation is open
abbrev pub status_of : Option Row → Status
status_of None = Done
status_of (Some row) = Unproved

-- what the files tell is read as a development and scripts whose status table has this status
pub record HasStatus (files : Files) (project : List ℕ) (status : Status) : Type 0 where
  pub development : Development
  pub scripts : List RawScript
  pub reads : ReadsProject true files project development scripts
  pub rows : List Row
  pub states : HasRows development scripts rows
  pub whole : status ≡ status_of (first_open rows)
