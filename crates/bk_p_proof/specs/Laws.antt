-- What holds of the answers.
use Rattle.std.specs.Prelude.{◌≡◌, ℕ, List}
use Rattle.bk_raw.specs.Trees.ScriptTree.{RawScript}
use Rattle.bk_p_proof.specs.Files.{AreScriptsOf, IsFaultOf}
use Rattle.bk_p_proof.specs.declared.fault.ScriptFault.{ScriptFault}
use Rattle.bk_p_proof.specs.declared.fault.ScriptFault.TheVariants.{Fault, Limit, Memory}

-- texts have at most one list of scripts
abbrev pub ScriptsOfAreOne : Type 0
ScriptsOfAreOne = (texts : List (List ℕ)) (ones others : List RawScript) →
    AreScriptsOf texts ones → AreScriptsOf texts others → ones ≡ others

-- and no fault where they have scripts, but that memory may be wanting
abbrev pub FaultsExclude : Type 0
FaultsExclude = (texts : List (List ℕ)) (scripts : List RawScript) (fault : ScriptFault) →
    AreScriptsOf texts scripts → IsFaultOf texts fault → fault ≡ Memory

-- a fault or a limit, and no want of memory
abbrev pub IsOfTexts : ScriptFault → Type 0
IsOfTexts (Fault number file place) = Unit {0}
IsOfTexts (Limit number file) = Unit {0}
IsOfTexts Memory = ⊥

-- texts have at most one fault
abbrev pub FaultsAreOne : Type 0
FaultsAreOne = (texts : List (List ℕ)) (one other : ScriptFault) → IsFaultOf texts one →
    IsOfTexts one → IsFaultOf texts other → IsOfTexts other → one ≡ other

-- it cannot be that texts have neither scripts nor a fault
abbrev pub ScriptsAreTold : Type 0
ScriptsAreTold = (texts : List (List ℕ)) → ((scripts : List RawScript) → AreScriptsOf texts scripts → ⊥) →
    ((fault : ScriptFault) → IsOfTexts fault → IsFaultOf texts fault → ⊥) → ⊥
