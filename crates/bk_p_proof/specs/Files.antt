-- What proof files are read as, and where they are at fault. Each fault and each limit is looked for in all of the files
-- before the next one is, in this order: bytes that are no UTF-8, tokens, depth, what is written, height, the number of rules,
-- names. Of two files at fault in one of these the first is told.
use Rattle.std.specs.Prelude.{◌≡◌, ◌≢◌, ◌⊎◌, ◌≤◌, ℕ, List, ◌∷◌, ◌++◌, length, map, All, Contains}
use Rattle.std.specs.List.{AllZip, AllPairs, flat_map}
use Rattle.bk_limits.specs.declared.TheConstants.{MOST_RULES}
use Rattle.bk_form.specs.declared.token.Token.{Token}
use Rattle.bk_raw.specs.Trees.ScriptTree.{RawScript}
use Rattle.bk_raw.specs.Grammar.ScriptSpelling.{SpellsScripts}
use Rattle.bk_raw.specs.Errors.Limits.{IsLowFile}
use Rattle.bk_raw.specs.declared.fault.FaultKind.TheVariants.{NoTree, TwiceNamed}
use Rattle.bk_raw.specs.Errors.Faults.{number_of_fault}
use Rattle.bk_sources.specs.Files.{Has, IsFirst, IsShallowText, IsAtFault, IsPastLimit}
use Rattle.bk_raw.specs.declared.script.NamePart.{NamePart}
use Rattle.bk_p_proof.specs.Unread.{IsWithoutSequences, IsReadFaultAt}
use Rattle.bk_p_proof.specs.TypedNames.{script_names, AreOfOneType, IsSecondType}
use Rattle.bk_p_proof.specs.declared.fault.ScriptFault.{ScriptFault}
use Rattle.bk_p_proof.specs.declared.fault.ScriptFault.TheVariants.{Fault, Limit, Memory}

-- ---- a file without a fault, step by step; its tokens are told before
-- these scripts are written in it without sequences, and no script writes a name with two types
pub record IsWritten (text : List ℕ) (scripts : List RawScript) : Type 0 where
  pub tokens : List Token
  pub shallow : IsShallowText text tokens
  pub spelled : SpellsScripts scripts tokens
  pub plain : IsWithoutSequences tokens
  pub typed : All (λ s. AreOfOneType (script_names s)) scripts

-- and no term is too high
pub record IsLow (text : List ℕ) (scripts : List RawScript) : Type 0 where
  pub written : IsWritten text scripts
  pub low : IsLowFile scripts

-- and no script has too many rules
abbrev pub IsShort : RawScript → Type 0
IsShort s = length s.rules ≤ MOST_RULES

-- the text is written as these scripts, each term low enough and each script short enough
pub record IsProofFile (text : List ℕ) (scripts : List RawScript) : Type 0 where
  pub low : IsLow text scripts
  pub short : All IsShort scripts

-- ---- faults
-- no scripts are written so, or a script writes a name with a second type
abbrev pub IsUnwritten : ℕ → List ℕ → Type 0
IsUnwritten place text = (tokens : List Token) × IsShallowText text tokens × (IsReadFaultAt (length text) tokens place
    ⊎ ((scripts : List RawScript) × SpellsScripts scripts tokens × IsSecondType scripts place × IsWithoutSequences tokens))

-- a term is too high
abbrev pub IsHigh : List ℕ → Type 0
IsHigh text = (scripts : List RawScript) × IsWritten text scripts × (IsLowFile scripts → ⊥)

-- a script has too many rules
abbrev pub IsLong : List ℕ → Type 0
IsLong text = (scripts : List RawScript) × IsLow text scripts × (All IsShort scripts → ⊥)

-- ---- names
-- the names of the scripts, in order
abbrev pub names_of : List RawScript → List (List NamePart)
names_of scripts = map (λ s. s.name) scripts

-- of the scripts of all files this is the first whose name one before it has
pub record IsTwiceNamed (files : List (List RawScript)) (file place : ℕ) : Type 0 where
  pub before : List (List RawScript)
  pub first : List RawScript
  pub script : RawScript
  pub rest : List RawScript
  pub after : List (List RawScript)
  pub splits : files ≡ before ++ (first ++ script ∷ rest) ∷ after
  pub counted : length before ≡ file
  pub starts : script.name_at ≡ place
  pub so_far : AllPairs (λ a b. a ≢ b) (names_of (flat_map (λ f. f) before ++ first))
  pub again : Contains (names_of (flat_map (λ f. f) before ++ first)) script.name

-- ---- answers
-- the scripts of the files, in order; no two have one name
pub record AreScriptsOf (texts : List (List ℕ)) (scripts : List RawScript) : Type 0 where
  pub files : List (List RawScript)
  pub each : AllZip IsProofFile texts files
  pub joined : scripts ≡ flat_map (λ f. f) files
  pub distinct : AllPairs (λ a b. a ≢ b) (names_of scripts)

-- the scripts are those of some texts
abbrev pub AreOfTexts : List RawScript → Type 0
AreOfTexts scripts = (texts : List (List ℕ)) × AreScriptsOf texts scripts

-- the script stands in a proof file, whose tokens are at most MOST_TOKENS
abbrev pub StandsInFile : RawScript → Type 0
StandsInFile s = (text : List ℕ) × (scripts : List RawScript) × IsProofFile text scripts × Contains scripts s

-- the first fault, or the first limit that is passed
abbrev pub IsFaultOf : List (List ℕ) → ScriptFault → Type 0
IsFaultOf texts (Fault number file place) =
    IsAtFault texts number file place
    ⊎ ((number ≡ number_of_fault NoTree) × All (Has IsShallowText) texts × IsFirst (Has IsWritten) (IsUnwritten place) texts file)
    ⊎ ((number ≡ number_of_fault TwiceNamed)
    × ((files : List (List RawScript)) × AllZip IsProofFile texts files × IsTwiceNamed files file place))
IsFaultOf texts (Limit number file) =
    IsPastLimit texts number file
    ⊎ ((number ≡ 12) × All (Has IsWritten) texts × IsFirst (Has IsLow) IsHigh texts file)
    ⊎ ((number ≡ 8) × All (Has IsLow) texts × IsFirst (Has IsProofFile) IsLong texts file)
IsFaultOf texts Memory = Unit {0}
