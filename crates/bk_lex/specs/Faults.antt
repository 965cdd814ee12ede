-- Where a text is at fault.
use Rattle.std.specs.Prelude.{◌≡◌, ◌≢◌, ℕ, ◌+◌, ◌≤◌, ◌<◌, List, ◌++◌, length, codes}
use Rattle.std.specs.Str.{IsUtf8, IsValidUpTo}
use Rattle.bk_limits.specs.declared.TheConstants.{MOST_TOKENS}
use Rattle.bk_form.specs.declared.token.Token.{Token}
use Rattle.bk_form.specs.declared.token.TokenKind.{TokenKind}
use Rattle.bk_lex.specs.Lexis.{Gap, gap_text, IsGap, IsWritten, Fits, BeginsWith, Cut}
use Rattle.bk_lex.specs.declared.fault.LexFault.{LexFault}
use Rattle.bk_lex.specs.declared.fault.LexFault.TheVariants.{NotUtf8, BadChar, OpenComment, NumberTooWide, Limit, Memory}

-- a comment that is not closed begins here
pub record IsOpenComment (text : List ℕ) : Type 0 where
  pub body : List ℕ
  pub opens : text ≡ codes "/*" ++ body
  pub unclosed : (front back : List ℕ) → body ≢ front ++ codes "*/" ++ back

-- no blank, comment or token begins here
pub record BeginsNothing (text : List ℕ) : Type 0 where
  pub some : 0 < length text
  pub no_gap : (gap : Gap) (after : List ℕ) → IsGap gap after → text ≢ gap_text gap ++ after
  pub no_token : (kind : TokenKind) (written after : List ℕ) → IsWritten kind written → text ≢ written ++ after

-- a token begins here whose number is too large
pub record BeginsTooWide (text : List ℕ) : Type 0 where
  pub kind : TokenKind
  pub after : List ℕ
  pub begins : BeginsWith kind text after
  pub wide : Fits kind → ⊥

-- a token begins here
pub record BeginsToken (text : List ℕ) : Type 0 where
  pub kind : TokenKind
  pub after : List ℕ
  pub begins : BeginsWith kind text after
  pub fits : Fits kind

-- the text is cut up to the place, and there stands this
pub record StandsAt (text : List ℕ) (place : ℕ) (found : List Token) (This : List ℕ → Type 0) : Type 0 where
  pub rest : List ℕ
  pub cut : Cut (length text) text found rest
  pub left : place + length rest ≡ length text
  pub this : This rest

-- the fault is that of the text: at most MOST_TOKENS tokens stand before it
abbrev pub IsFaultOf : List ℕ → LexFault → Type 0
IsFaultOf text (NotUtf8 place) = (IsUtf8 text → ⊥) × IsValidUpTo text place
IsFaultOf text (BadChar place) = IsUtf8 text × (found : List Token) × StandsAt text place found BeginsNothing × (length found ≤ MOST_TOKENS)
IsFaultOf text (OpenComment place) = IsUtf8 text × (found : List Token)
    × StandsAt text place found IsOpenComment × (length found ≤ MOST_TOKENS)
IsFaultOf text (NumberTooWide place) = IsUtf8 text × (found : List Token)
    × StandsAt text place found BeginsTooWide × (length found ≤ MOST_TOKENS)
IsFaultOf text (Limit place) = IsUtf8 text × (found : List Token) × StandsAt text place found BeginsToken × (length found ≡ MOST_TOKENS)
IsFaultOf text Memory = Unit {0}
