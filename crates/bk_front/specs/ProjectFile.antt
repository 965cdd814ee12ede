-- The project file: perhaps a line for the range of whole numbers, then one line for a machine's file, then lines for files of
-- refinements, then at most one for an implementation's, and lines that name proof files anywhere. The layout is this project's own.
use Rattle.std.specs.Prelude.{◌≡◌, ◌≢◌, ◌⊎◌, ℕ, suc, ◌<◌, ◌≤◌, ℤ, pos, Bool, true, false, not, cond, List}
use Rattle.std.specs.Prelude.{[], ◌∷◌, ◌++◌, length, map, filter, replicate, codes, All}
use Rattle.std.specs.List.{AllZip}
use Rattle.std.specs.Str.{IsUtf8, IsValidUpTo}
use Rattle.std.specs.Str.Lines.{lines}
use Rattle.std.specs.Str.Parse.{IsNumeral, digits_value}
use Rattle.bk_limits.specs.declared.TheConstants.{MOST_COMPONENTS}
use Rattle.bk_dev.specs.Development.{IsRange, default_max}
use Rattle.bk_lines.specs.Lines.{is_skipped, kept_lines}
use Rattle.bk_raw.specs.declared.fault.FaultKind.TheVariants.{NotUtf8, WrongLine}
use Rattle.bk_raw.specs.Errors.Faults.{number_of_fault}
use Rattle.bk_front.specs.declared.project_file.ProjectLine.{ProjectLine}
use Rattle.bk_front.specs.declared.project_file.LineKind.{LineKind}
use Rattle.bk_front.specs.declared.project_file.LineKind.TheVariants.{Range, Machine, Refinement, Implementation, Proofs}
use Rattle.bk_front.specs.declared.refusal.Refusal.{Refusal}
use Rattle.bk_front.specs.declared.refusal.Refusal.TheVariants.{Fault, Limit, Memory}

-- ---- lines
-- the first byte of a text, and d where it has none
abbrev pub first_or : ℕ → List ℕ → ℕ
first_or d [] = d
first_or d (c ∷ cs) = c

-- the last byte of a text, and d where it has none
abbrev pub last_or : ℕ → List ℕ → ℕ
last_or d [] = d
last_or d (c ∷ cs) = last_or c cs

-- a text that is not empty, and has no space (32) at either end
pub record IsFileName (name : List ℕ) : Type 0 where
  pub text : IsUtf8 name
  pub first : first_or 32 name ≢ 32
  pub last : last_or 32 name ≢ 32

-- the word, one space or more, the file's name or the digits, and perhaps spaces
pub record IsLine (word name line : List ℕ) : Type 0 where
  pub before : ℕ
  pub after : ℕ
  pub apart : 0 < before
  pub written : line ≡ word ++ (replicate before 32 ++ (name ++ replicate after 32))
  pub is_name : IsFileName name

-- the word with which such a line begins
abbrev pub word_of : LineKind → List ℕ
word_of Range = codes "range"
word_of Machine = codes "machine"
word_of Refinement = codes "refinement"
word_of Implementation = codes "implementation"
word_of Proofs = codes "proofs"

-- the number that digits stand for, leading zeros among them
abbrev pub max_in : List ℕ → ℤ
max_in digits = pos (digits_value 10 digits)

-- one digit or more, without a sign, for a number that MAXINT may be
pub record IsRangeText (text : List ℕ) : Type 0 where
  pub digits : IsNumeral 10 text
  pub range : IsRange (max_in text)

-- the name is one for such a line: after the word for the range it says one
abbrev pub IsNameFor : LineKind → List ℕ → Type 0
IsNameFor Range name = IsRangeText name
IsNameFor _ name = Unit {0}

-- the line is written so
pub record IsProjectLine (line : List ℕ) (named : ProjectLine) : Type 0 where
  pub written : IsLine (word_of named.kind) named.name line
  pub fits : IsNameFor named.kind named.name

-- ---- files
-- whether such a line names a proof file
abbrev pub is_proofs : LineKind → Bool
is_proofs Proofs = true
is_proofs _ = false

-- whether it names a component file; that for the range names no file
abbrev pub is_component : LineKind → Bool
is_component Machine = true
is_component Refinement = true
is_component Implementation = true
is_component _ = false

-- those lines that name component files, and those that name proof files
abbrev pub component_lines : List ProjectLine → List ProjectLine
component_lines named = filter (λ l. is_component l.kind) named

-- the lines that name a proof file
abbrev pub proof_lines : List ProjectLine → List ProjectLine
proof_lines named = filter (λ l. is_proofs l.kind) named

-- what the component files hold
abbrev pub kinds_of : List ProjectLine → List LineKind
kinds_of named = map (λ l. l.kind) (component_lines named)

-- ---- the range
-- whether it is the line for the range
abbrev pub is_range : LineKind → Bool
is_range Range = true
is_range _ = false

-- MAXINT: the number of the line for the range, and where there is none the one where no range is said
abbrev pub range_of : List ProjectLine → ℤ
range_of [] = default_max
range_of (l ∷ ls) = cond (is_range l.kind) (max_in l.name) (range_of ls)

-- ---- the order
-- the kinds of the lines that have their place: all but those for proof files
abbrev pub placed_kinds : List ProjectLine → List LineKind
placed_kinds named = map (λ l. l.kind) (filter (λ l. not (is_proofs l.kind)) named)

-- without the line for the range, where it stands first
abbrev pub behind_range : List LineKind → List LineKind
behind_range [] = []
behind_range (k ∷ ks) = cond (is_range k) ks (k ∷ ks)

-- a machine, refinements, and perhaps an implementation
abbrev pub IsChain : List LineKind → Type 0
IsChain kinds = (n : ℕ) × ((kinds ≡ Machine ∷ replicate n Refinement) ⊎ (kinds ≡ Machine ∷ (replicate n Refinement ++ Implementation ∷ [])))

-- so far it is right: perhaps a range, and behind it nothing yet, or a chain
abbrev pub IsRightSoFar : List LineKind → Type 0
IsRightSoFar kinds = (behind_range kinds ≡ []) ⊎ IsChain (behind_range kinds)

-- ---- the project file
-- the lines name a project's files, and perhaps its range first
pub record AreLines (named : List ProjectLine) : Type 0 where
  pub names : All (λ l. IsNameFor l.kind l.name) named
  pub chain : IsChain (behind_range (placed_kinds named))
  pub few : length (component_lines named) ≤ MOST_COMPONENTS

-- the lines that count are these
pub record AreLinesOf (text : List ℕ) (named : List ProjectLine) : Type 0 where
  pub utf8 : IsUtf8 text
  pub written : AllZip IsProjectLine (kept_lines text) named
  pub are : AreLines named

-- ---- faults
-- of the lines of a text those that count
abbrev pub kept_of : List (List ℕ) → List (List ℕ)
kept_of ls = filter (λ line. not (is_skipped line)) ls

-- this line, of number place from 1 on, is the first that is no line of a project, or has no place after those before it
pub record IsWrongLine (text : List ℕ) (place : ℕ) : Type 0 where
  pub before : List (List ℕ)
  pub line : List ℕ
  pub after : List (List ℕ)
  pub splits : lines text ≡ before ++ line ∷ after
  pub counted : suc (length before) ≡ place
  pub counts : is_skipped line ≡ false
  pub named : List ProjectLine
  pub so_far : AllZip IsProjectLine (kept_of before) named
  pub right : IsRightSoFar (placed_kinds named)
  pub wrong : (l : ProjectLine) → IsProjectLine line l → IsRightSoFar (placed_kinds (named ++ l ∷ [])) → ⊥

-- each line is right, and none names a component file; the place is one past the last line
pub record HasNoMachine (text : List ℕ) (place : ℕ) : Type 0 where
  pub named : List ProjectLine
  pub written : AllZip IsProjectLine (kept_lines text) named
  pub none : behind_range (placed_kinds named) ≡ []
  pub counted : suc (length (lines text)) ≡ place

-- the lines are written so, and name too many component files
pub record NamesTooMany (text : List ℕ) : Type 0 where
  pub named : List ProjectLine
  pub written : AllZip IsProjectLine (kept_lines text) named
  pub chain : IsChain (behind_range (placed_kinds named))
  pub many : MOST_COMPONENTS < length (component_lines named)

-- the first fault, or the limit that is passed; the project file is file 0
abbrev pub IsRefusalOfLines : List ℕ → Refusal → Type 0
IsRefusalOfLines text (Fault number file place) = (file ≡ 0) ×
    (((number ≡ number_of_fault NotUtf8) × (IsUtf8 text → ⊥) × IsValidUpTo text place)
    ⊎ ((number ≡ number_of_fault WrongLine) × IsUtf8 text × (IsWrongLine text place ⊎ HasNoMachine text place)))
IsRefusalOfLines text (Limit number file) = (number ≡ 4) × (file ≡ 0) × IsUtf8 text × NamesTooMany text
IsRefusalOfLines text Memory = Unit {0}

-- ---- laws
-- a project file has one list of lines at most
abbrev pub LinesAreOne : Type 0
LinesAreOne = (text : List ℕ) (one other : List ProjectLine) → AreLinesOf text one → AreLinesOf text other → one ≡ other

-- and no fault where it has one, but that memory may be wanting
abbrev pub LinesExclude : Type 0
LinesExclude = (text : List ℕ) (named : List ProjectLine) (refusal : Refusal) →
    AreLinesOf text named → IsRefusalOfLines text refusal → refusal ≡ Memory
