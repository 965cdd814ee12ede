-- What has room, as statements: 32 bits number the variables of what is read, since limits bound
-- them. A component declares at most MOST_NAMES names, there are at most MOST_COMPONENTS of them,
-- what substitutions bind is written in tokens, of which a file has at most MOST_TOKENS, and each
-- copy that flattening makes is an equation in a goal, of at most MOST_NODES_TOGETHER nodes in all.
use Rattle.std.specs.Prelude.{◌<◌, ◌^◌, ℕ, List, length, All}
use Rattle.bk_dev.specs.Development.{Development}
use Rattle.bk_dev.specs.Flattened.{flattened}
use Rattle.bk_raw.specs.Trees.ScriptTree.{RawScript}
use Rattle.bk_statics.specs.VerdictLaws.{HasRoom}
use Rattle.bk_po.specs.Obligations.{obligations}
use Rattle.bk_po.specs.Limits.{PassNoLimit}
use Rattle.bk_p_proof.specs.Files.{AreScriptsOf}
use Rattle.bk_scripts.specs.Brought.{widened}
use Rattle.bk_front.specs.declared.project_file.ProjectLine.{ProjectLine}
use Rattle.bk_front.specs.ProjectFile.{AreLines}
use Rattle.bk_front.specs.Project.{Reads}

-- 32 bits number the variables of the development's obligations and those of the names that the script brings
abbrev pub HasRoomFor : Development → RawScript → Type 0
HasRoomFor dev script = length (widened (flattened dev).table (flattened dev) script).variables < 2 ^ 32

-- the component files of a project with these lines, which are read as a development whose obligations pass no limit
pub record ReadWithinLimits (named : List ProjectLine) (texts : List (List ℕ)) (dev : Development) : Type 0 where
  pub lines : AreLines named
  pub reads : Reads named texts dev
  pub within : PassNoLimit (obligations dev)

-- 32 bits number the sets and variables, with all copies, of what component files are read as, if its obligations pass no limit
abbrev pub ReadHaveRoom : Type 0
ReadHaveRoom = (named : List ProjectLine) (texts : List (List ℕ)) (dev : Development) → ReadWithinLimits named texts dev → HasRoom dev

-- and so they do with the names that one of its scripts brings
abbrev pub ReadScriptsHaveRoom : Type 0
ReadScriptsHaveRoom = (named : List ProjectLine) (texts : List (List ℕ)) (dev : Development) → ReadWithinLimits named texts dev →
    (proof_texts : List (List ℕ)) (scripts : List RawScript) → AreScriptsOf proof_texts scripts → All (HasRoomFor dev) scripts
