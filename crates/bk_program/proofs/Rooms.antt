-- 32 bits number the variables of each project whose obligations pass no limit, and the names that its scripts bring.
use Rattle.std.proofs.Common.{ℕ, Bool, List, All}
use Rattle.bk_io.specs.Files.{Files}
use Rattle.bk_dev.specs.Development.{Development}
use Rattle.bk_statics.specs.VerdictLaws.{HasRoom}
use Rattle.bk_raw.specs.Trees.ScriptTree.{RawScript}
use Rattle.bk_po.specs.Obligations.{obligations}
use Rattle.bk_po.specs.Limits.{PassNoLimit}
use Rattle.bk_bounds.specs.Laws.{HasRoomFor, ReadWithinLimits}
use Rattle.bk_bounds.proofs.Projects.{read_have_room, read_scripts_have_room}
use Rattle.bk_verbs.specs.Project.{ReadsProject}

module _ (with_proofs : Bool) (files : Files) (project : List ℕ) (dev : Development) (scripts : List RawScript) (h : ReadsProject with_proofs files project dev scripts) (within : PassNoLimit (obligations dev)) where
  read : ReadWithinLimits h.components.named h.components.texts dev
  read = record {
    lines = h.components.lines.are;
    reads = h.components.reads;
    within = within;
  }

  pub project_has_room : HasRoom dev
  project_has_room = read_have_room h.components.named h.components.texts dev read

  pub scripts_have_room : All (HasRoomFor dev) scripts
  scripts_have_room = read_scripts_have_room h.components.named h.components.texts dev read h.proof_texts scripts h.scripts_are
