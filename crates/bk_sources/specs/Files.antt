-- The tokens of files, and where the files are at fault. Each fault and each limit is looked for in all of the files before the
-- next one is, in this order: bytes that are no UTF-8, tokens with their number, depth. Of two files at fault in one of these the
-- first is told, and of a file whose tokens are at fault and too many what comes first in the text.
use Rattle.std.specs.Prelude.{◌≡◌, ◌⊎◌, ◌≤◌, ℕ, List, ◌∷◌, ◌++◌, length, All}
use Rattle.std.specs.Str.{IsUtf8, IsValidUpTo}
use Rattle.bk_limits.specs.declared.TheConstants.{MOST_TOKENS}
use Rattle.bk_form.specs.declared.token.Token.{Token}
use Rattle.bk_lex.specs.Lexis.{AreTokens}
use Rattle.bk_lex.specs.Faults.{IsFaultOf as IsLexFaultOf}
use Rattle.bk_lex.specs.declared.fault.LexFault.TheVariants.{BadChar, OpenComment, NumberTooWide, Limit as LexLimit}
use Rattle.bk_raw.specs.Errors.Limits.{IsShallow, IsTooDeep}
use Rattle.bk_raw.specs.declared.fault.FaultKind.TheVariants.{NotUtf8, NoToken}
use Rattle.bk_raw.specs.Errors.Faults.{number_of_fault}
use Rattle.bk_sources.specs.declared.fault.FileFault.{FileFault}
use Rattle.bk_sources.specs.declared.fault.FileFault.TheVariants.{Fault, Limit, Memory}

-- ---- a file without a fault, step by step
-- these are its tokens, and they are not too many
pub record IsCut (text : List ℕ) (tokens : List Token) : Type 0 where
  pub cut : AreTokens text tokens
  pub few : length tokens ≤ MOST_TOKENS

-- and nowhere are too many brackets or blocks open
pub record IsShallowText (text : List ℕ) (tokens : List Token) : Type 0 where
  pub cut : IsCut text tokens
  pub shallow : IsShallow tokens

-- ---- the first at fault
-- so many items are fine, and the next is faulty
pub record IsFirst {A : Type 0} (Fine Faulty : A → Type 0) (items : List A) (place : ℕ) : Type 0 where
  pub before : List A
  pub item : A
  pub after : List A
  pub splits : items ≡ before ++ item ∷ after
  pub counted : length before ≡ place
  pub fine : All Fine before
  pub faulty : Faulty item

-- there is one with which the text is this
abbrev pub Has : {A : Type 0} → (List ℕ → A → Type 0) → List ℕ → Type 0
Has {A} Is text = (x : A) × Is text x

-- ---- faults
-- the longest front that is UTF-8 ends here
abbrev pub IsNoUtf8 : ℕ → List ℕ → Type 0
IsNoUtf8 place text = (IsUtf8 text → ⊥) × IsValidUpTo text place

-- no token can begin here, or a comment begins that does not end, or a number that is too great
abbrev pub IsNoToken : ℕ → List ℕ → Type 0
IsNoToken place text = IsLexFaultOf text (BadChar place) ⊎ (IsLexFaultOf text (OpenComment place) ⊎ IsLexFaultOf text (NumberTooWide place))

-- the token past the greatest number of tokens begins somewhere
abbrev pub HasTooMany : List ℕ → Type 0
HasTooMany text = (place : ℕ) × IsLexFaultOf text (LexLimit place)

-- at some token too many brackets or blocks are open
abbrev pub IsDeep : List ℕ → Type 0
IsDeep text = (tokens : List Token) × IsCut text tokens × (place : ℕ) × IsTooDeep tokens place

-- ---- answers
-- the fault of this number is the first, and stands at this byte of this file; files count from 0
abbrev pub IsAtFault : List (List ℕ) → ℕ → ℕ → ℕ → Type 0
IsAtFault texts number file place =
    ((number ≡ number_of_fault NotUtf8) × IsFirst IsUtf8 (IsNoUtf8 place) texts file)
    ⊎ ((number ≡ number_of_fault NoToken) × All IsUtf8 texts × IsFirst (Has IsCut) (IsNoToken place) texts file)

-- the limit of this number is the first that is passed, by this file
abbrev pub IsPastLimit : List (List ℕ) → ℕ → ℕ → Type 0
IsPastLimit texts number file =
    ((number ≡ 2) × All IsUtf8 texts × IsFirst (Has IsCut) HasTooMany texts file)
    ⊎ ((number ≡ 3) × All (Has IsCut) texts × IsFirst (Has IsShallowText) IsDeep texts file)

-- the first fault, or the first limit that is passed
abbrev pub IsFaultOf : List (List ℕ) → FileFault → Type 0
IsFaultOf texts (Fault number file place) = IsAtFault texts number file place
IsFaultOf texts (Limit number file) = IsPastLimit texts number file
IsFaultOf texts Memory = Unit {0}
