-- What the component files of a project are read as, and where they are at fault. Each fault and each limit is looked for in all
-- of the files before the next one is, in this order: bytes that are no UTF-8, tokens, depth, what is written, height, the
-- chain, the number of names. Then the levels are made one below the other: the first fault of a component is told before those
-- of the components below it.
use Rattle.std.specs.Prelude.{◌≡◌, ◌⊎◌, ℕ, suc, ℤ, true, false, List, [], ◌∷◌, ◌++◌, length, All, Option, None, Some}
use Rattle.std.specs.List.{AllZip}
use Rattle.bk_form.specs.declared.token.Token.{Token}
use Rattle.bk_raw.specs.Trees.ComponentTree.{RawComponent}
use Rattle.bk_raw.specs.Grammar.ComponentSpelling.{SpellsComponent}
use Rattle.bk_raw.specs.Errors.Limits.{IsLowComponent}
use Rattle.bk_raw.specs.declared.fault.FaultKind.TheVariants.{NoTree, WrongChain}
use Rattle.bk_raw.specs.Errors.Faults.{number_of_fault}
use Rattle.bk_raw.specs.Errors.Places.{IsComponentFaultAt}
use Rattle.bk_dev.specs.Development.{Development}
use Rattle.bk_sources.specs.Files.{Has, IsFirst, IsShallowText, IsAtFault, IsPastLimit}
use Rattle.bk_statics.specs.Components.{component_of}
use Rattle.bk_statics.specs.DeclaredNames.{declares_too_many}
use Rattle.bk_statics.specs.Verdict.{verdict_of, accepted, AnswersFault}
use Rattle.bk_front.specs.Chain.{Link, may_stand_below, links}
use Rattle.bk_front.specs.ProjectFile.{kinds_of, range_of}
use Rattle.bk_front.specs.declared.project_file.LineKind.{LineKind}
use Rattle.bk_front.specs.declared.project_file.ProjectLine.{ProjectLine}
use Rattle.bk_front.specs.declared.refusal.Refusal.{Refusal}
use Rattle.bk_front.specs.declared.refusal.Refusal.TheVariants.{Fault, Limit, Memory}

-- ---- a file without a fault, step by step; its tokens are told before
-- this component is written in it
pub record IsWritten (text : List ℕ) (c : RawComponent) : Type 0 where
  pub tokens : List Token
  pub shallow : IsShallowText text tokens
  pub spelled : SpellsComponent c tokens

-- and no tree in it is too high
pub record IsLow (text : List ℕ) (c : RawComponent) : Type 0 where
  pub written : IsWritten text c
  pub low : IsLowComponent c

-- ---- the components together
-- each may stand where it does
abbrev pub IsChained : Link → Type 0
IsChained l = may_stand_below l ≡ true

-- the texts' components, of which each may stand below the one before it; there is a kind for each text
pub record AreChained (kinds : List LineKind) (texts : List (List ℕ)) (components : List RawComponent) : Type 0 where
  pub counted : length kinds ≡ length texts
  pub each : AllZip IsLow texts components
  pub right : All IsChained (links None kinds components)

-- it declares no more names than the limit allows
abbrev pub DeclaresFew : RawComponent → Type 0
DeclaresFew c = declares_too_many (component_of c) ≡ false

-- each is accepted below the levels so far, with this MAXINT, and in the end these are all
abbrev pub AreLevels : ℤ → Option Development → List RawComponent → Option Development → Type 0
AreLevels top above [] all = above ≡ all
AreLevels top above (c ∷ cs) all =
    (dev : Development) × (verdict_of top above c ≡ accepted dev) × AreLevels top (Some dev) cs all

-- ---- what is read
-- the texts of component files of these kinds are read as the development, with this MAXINT
pub record ReadsIn (top : ℤ) (kinds : List LineKind) (texts : List (List ℕ)) (dev : Development) : Type 0 where
  pub components : List RawComponent
  pub chained : AreChained kinds texts components
  pub few : All DeclaresFew components
  pub levels : AreLevels top None components (Some dev)

-- the texts of the component files of a project with these lines are read as the development, in the range that the lines say
abbrev pub Reads : List ProjectLine → List (List ℕ) → Development → Type 0
Reads named texts dev = ReadsIn (range_of named) (kinds_of named) texts dev

-- ---- faults
-- no component is written so: this is the place of the first token after the longest front of whole parts, or the end
abbrev pub IsUnwritten : ℕ → List ℕ → Type 0
IsUnwritten place text = (tokens : List Token) × IsShallowText text tokens × IsComponentFaultAt (length text) tokens place

-- a tree is too high
abbrev pub IsHigh : List ℕ → Type 0
IsHigh text = (c : RawComponent) × IsWritten text c × (IsLowComponent c → ⊥)

-- a component that may not stand where it does, with the place of its name
abbrev pub IsUnchained : ℕ → Link → Type 0
IsUnchained place l = (may_stand_below l ≡ false) × (l.component.name.at ≡ place)

-- a component that declares too many names
abbrev pub DeclaresMany : RawComponent → Type 0
DeclaresMany c = declares_too_many (component_of c) ≡ true

-- of these components this is the first with a fault below those above it, and the fault is the first of its own
pub record IsLevelFault (top : ℤ) (components : List RawComponent) (number file place : ℕ) : Type 0 where
  pub before : List RawComponent
  pub component : RawComponent
  pub after : List RawComponent
  pub splits : components ≡ before ++ component ∷ after
  pub counted : length before ≡ file
  pub above : Option Development
  pub levels : AreLevels top None before above
  pub told : AnswersFault (verdict_of top above component) number place

-- the fault of this number, in this of the files, is the first; component files count from 0 here
abbrev pub IsProjectFault : ℤ → List LineKind → List (List ℕ) → ℕ → ℕ → ℕ → Type 0
IsProjectFault top kinds texts number file place =
    IsAtFault texts number file place
    ⊎ ((number ≡ number_of_fault NoTree) × All (Has IsShallowText) texts × IsFirst (Has IsWritten) (IsUnwritten place) texts file)
    ⊎ ((number ≡ number_of_fault WrongChain) × (length kinds ≡ length texts)
    × ((cs : List RawComponent) × AllZip IsLow texts cs × IsFirst IsChained (IsUnchained place) (links None kinds cs) file))
    ⊎ ((cs : List RawComponent) × AreChained kinds texts cs × All DeclaresFew cs × IsLevelFault top cs number file place)

-- the limit of this number is the first that is passed
abbrev pub IsProjectLimit : List LineKind → List (List ℕ) → ℕ → ℕ → Type 0
IsProjectLimit kinds texts number file =
    IsPastLimit texts number file
    ⊎ ((number ≡ 12) × All (Has IsWritten) texts × IsFirst (Has IsLow) IsHigh texts file)
    ⊎ ((number ≡ 5) × ((cs : List RawComponent) × AreChained kinds texts cs × IsFirst DeclaresFew DeclaresMany cs file))

-- the first fault, or the first limit that is passed; the first component file is file 1
abbrev pub IsRefusalIn : ℤ → List LineKind → List (List ℕ) → Refusal → Type 0
IsRefusalIn top kinds texts (Fault number file place) = (n : ℕ) × (suc n ≡ file) × IsProjectFault top kinds texts number n place
IsRefusalIn top kinds texts (Limit number file) = (n : ℕ) × (suc n ≡ file) × IsProjectLimit kinds texts number n
IsRefusalIn top kinds texts Memory = Unit {0}

-- of a project with these lines, in the range that they say
abbrev pub IsRefusalOf : List ProjectLine → List (List ℕ) → Refusal → Type 0
IsRefusalOf named texts refusal = IsRefusalIn (range_of named) (kinds_of named) texts refusal

-- ---- laws
-- texts are read as one development at most
abbrev pub ReadAsOne : Type 0
ReadAsOne = (named : List ProjectLine) (texts : List (List ℕ)) (dev other : Development) →
    Reads named texts dev → Reads named texts other → dev ≡ other

-- and have no fault where they are read, but that memory may be wanting
abbrev pub FaultsExclude : Type 0
FaultsExclude = (named : List ProjectLine) (texts : List (List ℕ)) (dev : Development) (refusal : Refusal) →
    Reads named texts dev → IsRefusalOf named texts refusal → refusal ≡ Memory
