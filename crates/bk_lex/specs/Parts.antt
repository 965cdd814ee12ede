-- The parts of a text that the lexer cuts off.
use Rattle.std.specs.Prelude.{◌≡◌, ◌≢◌, ℕ, ◌+◌, ◌≤◌, Bool, true, false, List, [], ◌∷◌, ◌++◌, length, take, drop, Some}
use Rattle.std.specs.List.{list_all}
use Rattle.std.specs.Str.{encode_utf8_all, IsCharBoundary, IsUtf8}
use Rattle.std.specs.Char.{encode_utf8}
use Rattle.unicode_ident.specs.Ident.{is_xid_continue}
use Rattle.bk_limits.specs.declared.TheConstants.{MOST_TOKENS}
use Rattle.bk_form.specs.declared.token.Token.{Token}
use Rattle.bk_form.specs.declared.token.TokenKind.{TokenKind}
use Rattle.bk_lex.specs.Lexis.{Gap, gap_text, IsGap, AreGaps, NoComment, IsIdentifier, is_digit}
use Rattle.bk_lex.specs.Lexis.{is_numeral, IsWritten, BeginsWith, Fits, AreTokens, sign_number}
use Rattle.bk_lex.specs.Faults.{IsOpenComment, BeginsTooWide}
use Rattle.bk_lex.specs.declared.fault.LexFault.{LexFault}
use Rattle.bk_lex.specs.declared.fault.LexFault.TheVariants.{NotUtf8, BadChar, OpenComment, NumberTooWide, Limit, Memory}

-- the first byte passes
abbrev pub begins : (ℕ → Bool) → List ℕ → Bool
begins passes [] = false
begins passes (c ∷ cs) = passes c

-- the text is cut into a run, which is its first bytes as far as they pass, and the rest
pub record IsRun (passes : ℕ → Bool) (text run rest : List ℕ) : Type 0 where
  pub splits : text ≡ run ++ rest
  pub all : list_all passes run ≡ true
  pub ends : begins passes rest ≡ false

-- a number's digits, as many as stand there
pub record IsFirstNumeral (text digits rest : List ℕ) : Type 0 where
  pub splits : text ≡ digits ++ rest
  pub numeral : is_numeral digits ≡ true
  pub ends : begins is_digit rest ≡ false

-- the same after $
abbrev pub IsFirstDollar : List ℕ → List ℕ → List ℕ → Type 0
IsFirstDollar text digits rest = (numeral : List ℕ) × (text ≡ 36 ∷ numeral) × IsFirstNumeral numeral digits rest

-- the text begins with no $ that has digits after it
abbrev pub BeginsNoDollar : List ℕ → Type 0
BeginsNoDollar text = (digits after : List ℕ) → is_numeral digits ≡ true → text ≢ 36 ∷ (digits ++ after)

-- the rest begins with no character that continues an identifier
abbrev pub ContinuesNot : List ℕ → Type 0
ContinuesNot text = (c : ℕ) (after : List ℕ) → is_xid_continue c ≡ true → text ≢ encode_utf8 c ++ after

-- an identifier, as long as it goes on
pub record IsFirstIdentifier (text word rest : List ℕ) : Type 0 where
  pub splits : text ≡ word ++ rest
  pub identifier : IsIdentifier word
  pub ends : ContinuesNot rest

-- the text begins with no identifier
abbrev pub BeginsNoIdentifier : List ℕ → Type 0
BeginsNoIdentifier text = (word after : List ℕ) → IsIdentifier word → text ≢ word ++ after

-- a sign, the longest
pub record IsFirstSign (op : ℕ) (text rest : List ℕ) : Type 0 where
  pub written : List ℕ
  pub spelling : sign_number written ≡ Some op
  pub splits : text ≡ written ++ rest
  pub longest : (other : ℕ) (more after : List ℕ) → sign_number more ≡ Some other → text ≡ more ++ after → length more ≤ length written

-- the text begins with no sign
abbrev pub BeginsNoSign : List ℕ → Type 0
BeginsNoSign text = (op : ℕ) (written after : List ℕ) → sign_number written ≡ Some op → text ≢ written ++ after

-- no blank and no comment begins here
pub record NoGap (text : List ℕ) : Type 0 where
  pub no_gap : (gap : Gap) (after : List ℕ) → IsGap gap after → text ≢ gap_text gap ++ after
  pub comment : NoComment text

-- the rest is what stands after all the blanks and comments in front
abbrev pub IsBehindGaps : List ℕ → List ℕ → Type 0
IsBehindGaps text rest = (gaps : List Gap) × AreGaps gaps text rest × NoGap rest × (length rest ≤ length text) × IsUtf8 rest

-- a comment that is not closed, after blanks and comments
abbrev pub IsGapFault : ℕ → List ℕ → LexFault → Type 0
IsGapFault total text (NotUtf8 place) = ⊥
IsGapFault total text (BadChar place) = ⊥
IsGapFault total text (OpenComment place) = (gaps : List Gap) × (rest : List ℕ)
    × AreGaps gaps text rest × (place + length rest ≡ total) × IsOpenComment rest
IsGapFault total text (NumberTooWide place) = ⊥
IsGapFault total text (Limit place) = ⊥
IsGapFault total text Memory = ⊥

-- what is wrong with a text that should begin with a token
abbrev pub IsTokenFault : List ℕ → ℕ → LexFault → Type 0
IsTokenFault text start (NotUtf8 place) = ⊥
IsTokenFault text start (BadChar place) = (place ≡ start)
    × ((kind : TokenKind) (written after : List ℕ) → IsWritten kind written → text ≢ written ++ after)
IsTokenFault text start (OpenComment place) = ⊥
IsTokenFault text start (NumberTooWide place) = (place ≡ start) × BeginsTooWide text
IsTokenFault text start (Limit place) = ⊥
IsTokenFault text start Memory = Unit {0}

-- a token that fits, and what stands after it
abbrev pub IsFirstToken : TokenKind → List ℕ → List ℕ → Type 0
IsFirstToken kind text rest = BeginsWith kind text rest × Fits kind

-- the first bytes, so many, are no sign
abbrev pub NoSignOfLength : ℕ → List ℕ → Type 0
NoSignOfLength count text = (op : ℕ) (written after : List ℕ) →
    length written ≡ count → sign_number written ≡ Some op → text ≢ written ++ after

-- these are the text's tokens, at most MOST_TOKENS
abbrev pub IsAnswer : List ℕ → List Token → Type 0
IsAnswer text tokens = AreTokens text tokens × (length tokens ≤ MOST_TOKENS)

-- the first bytes, so many, are characters that continue an identifier, and no such one stands after them
pub record ContinuesUpTo (text : List ℕ) (count : ℕ) : Type 0 where
  pub boundary : IsCharBoundary text count
  pub characters : List ℕ
  pub spells : take count text ≡ encode_utf8_all characters
  pub all : list_all is_xid_continue characters ≡ true
  pub ends : ContinuesNot (drop count text)
