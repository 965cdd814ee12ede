-- What the files of a project tell: its development, its scripts of proof, and the calls that a script asks for.
use Rattle.std.specs.Prelude.{◌≡◌, ℕ, Bool, true, false, cond, List, [], length, ◌≤◌, map, All, Some}
use Rattle.std.specs.List.{AllZip}
use Rattle.bk_limits.specs.declared.TheConstants.{MOST_BYTES, MOST_INSTRUCTIONS, MOST_CELLS}
use Rattle.bk_io.specs.Bytes.{AreBytes}
use Rattle.bk_io.specs.Files.{Files, file_named}
use Rattle.bk_code.specs.declared.image.Image.{Image}
use Rattle.bk_code.specs.Session.{Request}
use Rattle.bk_image.specs.Spelling.{HasSpelling}
use Rattle.bk_dev.specs.Development.{Development, is_complete}
use Rattle.bk_raw.specs.Trees.ScriptTree.{RawScript}
use Rattle.bk_front.specs.declared.project_file.ProjectLine.{ProjectLine}
use Rattle.bk_front.specs.ProjectFile.{AreLinesOf, component_lines, proof_lines}
use Rattle.bk_front.specs.Project.{Reads}
use Rattle.bk_po.specs.Obligations.{obligations}
use Rattle.bk_po.specs.Limits.{PassNoLimit}
use Rattle.bk_p_proof.specs.Files.{AreScriptsOf}
use Rattle.bk_status.specs.Rows.{AreProved}
use Rattle.bk_calls.specs.Script.{IsScript, most_calls}

-- ---- files
-- the files tell this text under the name, and it has at most MOST_BYTES bytes
pub record IsTold (files : Files) (name text : List ℕ) : Type 0 where
  pub stands : file_named files name ≡ Some text
  pub short : length text ≤ MOST_BYTES

-- the files tell these texts under the names, in order
abbrev pub AreTold : Files → List (List ℕ) → List (List ℕ) → Type 0
AreTold files names texts = AllZip (IsTold files) names texts

-- the file is told, and what it holds are bytes
pub record IsToldAsBytes (files : Files) (name bytes : List ℕ) : Type 0 where
  pub told : IsTold files name bytes
  pub are_bytes : AreBytes bytes

-- each file holds bytes
abbrev pub HoldBytes : Files → Type 0
HoldBytes files = All (λ file. AreBytes file.1) files

-- ---- the project
-- the names of the component files, in the order of their lines
abbrev pub component_files : List ProjectLine → List (List ℕ)
component_files named = map (λ l. l.name) (component_lines named)

-- and those of the proof files
abbrev pub proof_files : List ProjectLine → List (List ℕ)
proof_files named = map (λ l. l.name) (proof_lines named)

-- those of one of the two
abbrev pub files_of : Bool → List ProjectLine → List (List ℕ)
files_of true named = proof_files named
files_of false named = component_files named

-- all of the files that are named, or none: what executes no proof does not fetch the proof files
abbrev pub fetched : Bool → List (List ℕ) → List (List ℕ)
fetched all names = cond all names []

-- the texts that the files tell under the names of the component files in the project file are read as the development
pub record ReadsComponents (files : Files) (project : List ℕ) (dev : Development) : Type 0 where
  pub text : List ℕ
  pub told : IsTold files project text
  pub named : List ProjectLine
  pub lines : AreLinesOf text named
  pub texts : List (List ℕ)
  pub texts_told : AreTold files (component_files named) texts
  pub reads : Reads named texts dev

-- and those of the proof files, where these are fetched, are those of the scripts of proof
pub record ReadsProject (with_proofs : Bool) (files : Files) (project : List ℕ)
    (dev : Development) (scripts : List RawScript) : Type 0 where
  pub components : ReadsComponents files project dev
  pub proof_texts : List (List ℕ)
  pub proofs_told : AreTold files (fetched with_proofs (proof_files components.named)) proof_texts
  pub scripts_are : AreScriptsOf proof_texts scripts

-- ---- the obligations
-- the obligations pass no limit, and each is obvious or has a replayed proof among the scripts
pub record IsProved (dev : Development) (scripts : List RawScript) : Type 0 where
  pub within : PassNoLimit (obligations dev)
  pub proved : AreProved dev scripts

-- the last component is an implementation, and the obligations are proved
pub record IsFinished (dev : Development) (scripts : List RawScript) : Type 0 where
  pub complete : is_complete dev ≡ true
  pub proved : IsProved dev scripts

-- ---- the code
-- at most MOST_INSTRUCTIONS instructions and at most MOST_CELLS cells, and a spelling in bytes: each name has at most 65535 bytes,
-- the parts are few enough to be counted in their fields, and the elements of a set few enough that 0 to MAXINT number them
pub record IsWithinCodeLimits (image : Image) : Type 0 where
  pub code : length image.code ≤ MOST_INSTRUCTIONS
  pub cells : image.cells ≤ MOST_CELLS
  pub spelled : HasSpelling image

-- ---- the calls
-- the call script that the files tell asks for these calls of the image, at most MOST_CALLS
pub record ReadsCalls (files : Files) (calls : List ℕ) (image : Image) (requests : List Request) : Type 0 where
  pub text : List ℕ
  pub told : IsTold files calls text
  pub script : IsScript image text requests
  pub few : length requests ≤ most_calls
