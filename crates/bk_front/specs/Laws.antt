-- What holds of the answers: a project has one answer, and cannot have none.
use Rattle.std.specs.Prelude.{◌≡◌, ℕ, ◌<◌, true, List, length}
use Rattle.bk_dev.specs.B0.{IsB0Development}
use Rattle.bk_dev.specs.Development.{Development, is_complete}
use Rattle.bk_dev.specs.Facts.{IsDevelopment}
use Rattle.bk_statics.specs.VerdictLaws.{HasRoom}
use Rattle.bk_front.specs.declared.project_file.ProjectLine.{ProjectLine}
use Rattle.bk_front.specs.declared.refusal.Refusal.{Refusal}
use Rattle.bk_front.specs.declared.refusal.Refusal.TheVariants.{Fault, Limit, Memory}
use Rattle.bk_front.specs.Project.{Reads, IsRefusalOf}
use Rattle.bk_front.specs.ProjectFile.{AreLines, AreLinesOf, IsRefusalOfLines, kinds_of}

-- a fault or a limit, and no want of memory
abbrev pub IsOfProject : Refusal → Type 0
IsOfProject (Fault number file place) = Unit {0}
IsOfProject (Limit number file) = Unit {0}
IsOfProject Memory = ⊥

-- a project file has at most one fault or limit
abbrev pub LinesHaveOneRefusal : Type 0
LinesHaveOneRefusal = (text : List ℕ) (one other : Refusal) → IsRefusalOfLines text one →
    IsOfProject one → IsRefusalOfLines text other → IsOfProject other → one ≡ other

-- and so have the texts of component files
abbrev pub TextsHaveOneRefusal : Type 0
TextsHaveOneRefusal = (named : List ProjectLine) (texts : List (List ℕ)) (one other : Refusal) →
    IsRefusalOf named texts one → IsOfProject one → IsRefusalOf named texts other → IsOfProject other → one ≡ other

-- it cannot be that a project file has neither lines nor a fault or limit
abbrev pub LinesAreRead : Type 0
LinesAreRead = (text : List ℕ) → ((named : List ProjectLine) → AreLinesOf text named → ⊥) →
    ((refusal : Refusal) → IsOfProject refusal → IsRefusalOfLines text refusal → ⊥) → ⊥

-- nor that texts, of which there is one at least, are neither read as a development nor have one; there is a line for each
abbrev pub TextsAreRead : Type 0
TextsAreRead = (named : List ProjectLine) (texts : List (List ℕ)) → length (kinds_of named) ≡ length texts → 0 < length texts →
    ((dev : Development) → Reads named texts dev → ⊥) →
    ((refusal : Refusal) → IsOfProject refusal → IsRefusalOf named texts refusal → ⊥) → ⊥

-- what texts are read as is a development, as long as 32 bits number its variables with all copies that flattening makes
abbrev pub ReadAreDevelopments : Type 0
ReadAreDevelopments = (named : List ProjectLine) (texts : List (List ℕ)) (dev : Development) →
    AreLines named → Reads named texts dev → HasRoom dev → IsDevelopment dev

-- and it is in B0 where it ends in an implementation
abbrev pub ReadAreExecutable : Type 0
ReadAreExecutable = (named : List ProjectLine) (texts : List (List ℕ)) (dev : Development) →
    AreLines named → Reads named texts dev → HasRoom dev → is_complete dev ≡ true → IsB0Development dev
