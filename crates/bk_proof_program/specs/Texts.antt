-- The files of a project as they were read once more.
use Rattle.std.specs.Prelude.{◌≡◌, ℕ, List, ◌∷◌, ◌++◌, map}
use Rattle.bk_form.specs.Each.{Each}
use Rattle.bk_io.specs.Files.{Files}
use Rattle.bk_front.specs.declared.project_file.ProjectLine.{ProjectLine}
use Rattle.bk_front.specs.ProjectFile.{AreLinesOf}
use Rattle.bk_verbs.specs.Project.{IsTold, component_files, proof_files}
use Rattle.bk_proof_program.specs.declared.project.NamedText.{NamedText}
use Rattle.bk_proof_program.specs.declared.project.ProjectTexts.{ProjectTexts}

-- the files tell this text under this name
abbrev pub IsToldFile : Files → NamedText → Type 0
IsToldFile files file = IsTold files file.name file.text.items

-- what the files tell of a project: its project file, and the files that this names, each with its name and in the order of its lines
pub record AreTextsOf (files : Files) (project : List ℕ) (texts : ProjectTexts) : Type 0 where
  pub told : IsTold files project texts.text.items
  pub named : List ProjectLine
  pub lines : AreLinesOf texts.text.items named
  pub component_names : map (λ f. f.name) texts.components.items ≡ component_files named
  pub components : Each (IsToldFile files) texts.components.items
  pub proof_names : map (λ f. f.name) texts.proofs.items ≡ proof_files named
  pub proofs : Each (IsToldFile files) texts.proofs.items

-- a file as a name and a text
abbrev pub file_of : NamedText → List ℕ × List ℕ
file_of file = (file.name, file.text.items)

-- all files: the project file, the components, the proof files
abbrev pub files_read : (project : List ℕ) → ProjectTexts → Files
files_read project texts = (project, texts.text.items) ∷ (map file_of texts.components.items ++ map file_of texts.proofs.items)
