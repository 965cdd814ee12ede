-- What holds of the answers.
use Rattle.std.specs.Prelude.{◌≡◌, ℕ, List, All}
use Rattle.bk_lex.specs.Faults.{IsFaultOf as IsLexFaultOf}
use Rattle.bk_lex.specs.Laws.{IsOfText}
use Rattle.bk_lex.specs.declared.fault.LexFault.{LexFault}
use Rattle.bk_sources.specs.Files.{Has, IsCut, IsShallowText, IsFaultOf}
use Rattle.bk_sources.specs.declared.fault.FileFault.{FileFault}
use Rattle.bk_sources.specs.declared.fault.FileFault.TheVariants.{Fault, Limit, Memory}

-- files whose tokens are told have no fault, but that memory may be wanting
abbrev pub ShallowFilesHaveNoFault : Type 0
ShallowFilesHaveNoFault = (texts : List (List ℕ)) (fault : FileFault) →
    All (Has IsShallowText) texts → IsFaultOf texts fault → fault ≡ Memory

-- a fault or a limit, and no want of memory
abbrev pub IsOfFiles : FileFault → Type 0
IsOfFiles (Fault number file place) = Unit {0}
IsOfFiles (Limit number file) = Unit {0}
IsOfFiles Memory = ⊥

-- files have at most one fault
abbrev pub FaultsAreOne : Type 0
FaultsAreOne = (texts : List (List ℕ)) (one other : FileFault) → IsFaultOf texts one →
    IsOfFiles one → IsFaultOf texts other → IsOfFiles other → one ≡ other

-- it cannot be that a text has neither tokens nor a fault
abbrev pub TextsAreCut : Type 0
TextsAreCut = (text : List ℕ) → (Has IsCut text → ⊥) → ((fault : LexFault) → IsOfText fault → IsLexFaultOf text fault → ⊥) → ⊥

-- it cannot be that files have neither tokens that are told nor a fault
abbrev pub FilesAreTold : Type 0
FilesAreTold = (texts : List (List ℕ)) → (All (Has IsShallowText) texts → ⊥) →
    ((fault : FileFault) → IsOfFiles fault → IsFaultOf texts fault → ⊥) → ⊥
