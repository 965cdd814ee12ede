-- The tokens of the B notation, and how a text is cut into them.
-- Texts are lists of bytes in UTF-8. What an identifier is comes from Unicode Standard Annex 31 (XID_Start, XID_Continue).
-- Source: B Language Reference Manual, and for identifiers Unicode Standard Annex 31.
use Rattle.std.specs.Prelude.{◌≡◌, ◌≢◌, ℕ, pos, ◌+◌, ◌-◌, ◌*◌, ◌^◌, ◌≤◌, ◌<◌, Bool, true, false, not, cond, ◌&&◌}
use Rattle.std.specs.Prelude.{◌||◌, nat_eq, nat_le, IsTrue, List, [], ◌∷◌, ◌++◌, length, Option, Some, None, codes}
use Rattle.std.specs.List.{list_all}
use Rattle.std.specs.Str.{bytes_eq, encode_utf8_all, IsUtf8}
use Rattle.unicode_ident.specs.Ident.{is_xid_start, is_xid_continue}
use Rattle.bk_ops.specs.Signs.{sign_texts}
use Rattle.bk_ops.specs.Words.{word_texts}
use Rattle.bk_form.specs.declared.token.Token.{Token}
use Rattle.bk_form.specs.declared.token.TokenKind.{TokenKind}
use Rattle.bk_form.specs.declared.token.TokenKind.TheVariants.{Name, LevelName, BoundName, Number, Sign, Word}

-- ---- how a token is written
-- characters: one that starts an identifier, and then such as continue it
abbrev pub is_identifier : List ℕ → Bool
is_identifier [] = false
is_identifier (c ∷ cs) = is_xid_start c && list_all is_xid_continue cs

-- the bytes of an identifier
abbrev pub IsIdentifier : List ℕ → Type 0
IsIdentifier text = (characters : List ℕ) × (text ≡ encode_utf8_all characters) × IsTrue (is_identifier characters)

-- a byte from 0 to 9, as written
abbrev pub is_digit : ℕ → Bool
is_digit c = nat_le 48 c && nat_le c 57

-- one digit or more
abbrev pub is_numeral : List ℕ → Bool
is_numeral [] = false
is_numeral (c ∷ cs) = is_digit c && list_all is_digit cs

-- the number that decimal digits stand for, after digits that stand for n
abbrev pub numeral_from : ℕ → List ℕ → ℕ
numeral_from n [] = n
numeral_from n (c ∷ cs) = numeral_from (10 * n + (c - 48)) cs

-- the number of a text in a list whose first has the number n
abbrev pub number_in : ℕ → List (List ℕ) → List ℕ → Option ℕ
number_in n [] text = None
number_in n (first ∷ others) text = cond (bytes_eq text first) (Some n) (number_in (n + 1) others text)

-- signs are numbered from 0, words after them
abbrev pub sign_number : List ℕ → Option ℕ
sign_number text = number_in 0 sign_texts text

-- the number of a reserved word; the first is 57, after the signs
abbrev pub word_number : List ℕ → Option ℕ
word_number text = number_in 57 word_texts text

-- $ and digits, which stand for the number
pub record IsDollar (text : List ℕ) (n : ℕ) : Type 0 where
  pub digits : List ℕ
  pub splits : text ≡ 36 ∷ digits
  pub numeral : is_numeral digits ≡ true
  pub value : n ≡ numeral_from 0 digits

-- a token of this kind is written so
abbrev pub IsWritten : TokenKind → List ℕ → Type 0
IsWritten (Name name) text = IsIdentifier text × (word_number text ≡ None) × (name ≡ text)
IsWritten (LevelName name n) text = (dollar : List ℕ) × (text ≡ name ++ dollar) × IsIdentifier name × IsDollar dollar n
IsWritten (BoundName n) text = IsDollar text n
IsWritten (Number z) text = (is_numeral text ≡ true) × (z ≡ pos (numeral_from 0 text))
IsWritten (Sign op) text = sign_number text ≡ Some op
IsWritten (Word op) text = IsIdentifier text × (word_number text ≡ Some op)

-- a number is at most 2^127 - 1, that of a name below 2^32
abbrev pub Fits : TokenKind → Type 0
Fits (Name name) = Unit {0}
Fits (LevelName name n) = n < 2 ^ 32
Fits (BoundName n) = n < 2 ^ 32
Fits (Number z) = (n : ℕ) × (z ≡ pos n) × (n < 2 ^ 127)
Fits (Sign op) = Unit {0}
Fits (Word op) = Unit {0}

-- ---- blanks and comments
-- a tab, a line feed, a carriage return or a space
abbrev pub is_blank : ℕ → Bool
is_blank c = nat_eq c 9 || nat_eq c 10 || nat_eq c 13 || nat_eq c 32

-- what may stand between tokens: a blank, or a comment with what it says
pub data Gap : Type 0 where
  blank : ℕ → Gap
  block : List ℕ → Gap
  line : List ℕ → Gap

-- how it stands in the text: the blank itself, or a comment with its /* and */ or its //
abbrev pub gap_text : Gap → List ℕ
gap_text (blank c) = c ∷ []
gap_text (block body) = codes "/*" ++ body ++ codes "*/"
gap_text (line body) = codes "//" ++ body

-- the text is empty or begins with a line feed
abbrev pub ends_line : List ℕ → Bool
ends_line [] = true
ends_line (c ∷ cs) = nat_eq c 10

-- any byte but a line feed
abbrev pub stays_in_line : ℕ → Bool
stays_in_line c = not (nat_eq c 10)

-- this stands in front of a text. A comment ends at the first */ after its /*, or with its line
abbrev pub IsGap : Gap → List ℕ → Type 0
IsGap (blank c) after = IsTrue (is_blank c)
IsGap (block body) after = (front back : List ℕ) → body ++ codes "*/" ≡ front ++ codes "*/" ++ back → length body ≤ length front
IsGap (line body) after = IsTrue (list_all stays_in_line body) × IsTrue (ends_line after)

-- the text is these blanks and comments, and then the rest
abbrev pub AreGaps : List Gap → List ℕ → List ℕ → Type 0
AreGaps [] text rest = text ≡ rest
AreGaps (gap ∷ gaps) text rest = (after : List ℕ) × (text ≡ gap_text gap ++ after) × IsGap gap after × AreGaps gaps after rest

-- no comment begins here
pub record NoComment (text : List ℕ) : Type 0 where
  pub no_block : (body : List ℕ) → text ≢ codes "/*" ++ body
  pub no_line : (body : List ℕ) → text ≢ codes "//" ++ body

-- ---- how a text is cut
-- the text begins with a token of the kind, written as long as any that it begins with and not the begin of a comment, and
-- the rest stands after it
pub record BeginsWith (kind : TokenKind) (text rest : List ℕ) : Type 0 where
  pub written : List ℕ
  pub spelling : IsWritten kind written
  pub splits : text ≡ written ++ rest
  pub longest : (other : TokenKind) (more after : List ℕ) → IsWritten other more → text ≡ more ++ after → length more ≤ length written
  pub comment : NoComment text

-- the text's front is cut into these tokens, with only blanks and comments between and after them, and the rest stands
-- after that. The whole text, of which this is the end, has total bytes: where so many bytes are left, there is its place
abbrev pub Cut : ℕ → List ℕ → List Token → List ℕ → Type 0
Cut total text [] rest = (gaps : List Gap) × AreGaps gaps text rest
Cut total text (token ∷ tokens) rest =
    (gaps : List Gap) × (here after : List ℕ) × AreGaps gaps text here ×
    BeginsWith token.kind here after × Fits token.kind ×
    (token.start + length here ≡ total) × (token.end + length after ≡ total) ×
    Cut total after tokens rest

-- the tokens of the text, which is UTF-8
abbrev pub AreTokens : List ℕ → List Token → Type 0
AreTokens text tokens = IsUtf8 text × Cut (length text) text tokens []
