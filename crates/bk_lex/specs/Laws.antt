-- What the definitions imply.
use Rattle.std.specs.Prelude.{◌≡◌, ℕ, ◌≤◌, List, length}
use Rattle.bk_limits.specs.declared.TheConstants.{MOST_TOKENS}
use Rattle.bk_form.specs.declared.token.Token.{Token}
use Rattle.bk_lex.specs.Lexis.{AreTokens}
use Rattle.bk_lex.specs.Faults.{IsFaultOf}
use Rattle.bk_lex.specs.declared.fault.LexFault.{LexFault}
use Rattle.bk_lex.specs.declared.fault.LexFault.TheVariants.{NotUtf8, BadChar, OpenComment, NumberTooWide, Limit, Memory}

-- a text has at most one list of tokens
abbrev pub TokensAreOne : Type 0
TokensAreOne = (text : List ℕ) (one other : List Token) → AreTokens text one → AreTokens text other → one ≡ other

-- every fault but want of memory is one of the text
abbrev pub IsOfText : LexFault → Type 0
IsOfText (NotUtf8 place) = Unit {0}
IsOfText (BadChar place) = Unit {0}
IsOfText (OpenComment place) = Unit {0}
IsOfText (NumberTooWide place) = Unit {0}
IsOfText (Limit place) = Unit {0}
IsOfText Memory = ⊥

-- the text has no list of at most MOST_TOKENS tokens, unless only memory was wanting
abbrev pub HasNoTokens : List ℕ → LexFault → Type 0
HasNoTokens text fault = IsOfText fault → (tokens : List Token) → AreTokens text tokens → length tokens ≤ MOST_TOKENS → ⊥

-- a text has at most one fault
abbrev pub FaultsAreOne : Type 0
FaultsAreOne = (text : List ℕ) (one other : LexFault) → IsFaultOf text one →
    IsOfText one → IsFaultOf text other → IsOfText other → one ≡ other
