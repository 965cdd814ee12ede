-- How a call is written on a line of a script: a name, and after it arguments in parentheses, divided by commas.
-- Identifiers, numerals and the words of the notation are those of its lexis; a line's only blanks are spaces.
use Rattle.std.specs.Prelude.{◌≡◌, ℕ, ℤ, pos, neg_ℤ, ◌⊎◌, Bool, true, false, List, [], ◌∷◌, ◌++◌, replicate, codes, None}
use Rattle.std.specs.Str.{IsUtf8}
use Rattle.bk_lex.specs.Lexis.{IsIdentifier, is_numeral, numeral_from, word_number}

-- so many spaces
abbrev pub spaces : ℕ → List ℕ
spaces n = replicate n 32

-- a name: an identifier that is no word of the notation
pub record IsName (text : List ℕ) : Type 0 where
  pub utf8 : IsUtf8 text
  pub identifier : IsIdentifier text
  pub no_word : word_number text ≡ None

-- what is written as an argument: a whole number of any size, a truth value, or the name of an element
pub data Argument : Type 0 where
  Number : (n : ℤ) → Argument
  Truth : (b : Bool) → Argument
  Element : (name : List ℕ) → Argument

-- a number is one decimal digit or more, with or without a minus in front
abbrev pub IsNumber : List ℕ → ℤ → Type 0
IsNumber text n =
    ((is_numeral text ≡ true) × (n ≡ pos (numeral_from 0 text))) ⊎
    ((digits : List ℕ) × (text ≡ codes "-" ++ digits) × (is_numeral digits ≡ true) × (n ≡ neg_ℤ (pos (numeral_from 0 digits))))

-- an argument is written so
abbrev pub IsWritten : Argument → List ℕ → Type 0
IsWritten (Number n) text = IsNumber text n
IsWritten (Truth true) text = text ≡ codes "TRUE"
IsWritten (Truth false) text = text ≡ codes "FALSE"
IsWritten (Element name) text = IsName text × (name ≡ text)

-- the text is that argument; spaces are free in front of it and after it
pub record IsArgument (argument : Argument) (text : List ℕ) : Type 0 where
  pub before : ℕ
  pub written : List ℕ
  pub behind : ℕ
  pub spelling : IsWritten argument written
  pub splits : text ≡ spaces before ++ written ++ spaces behind

-- the text is those arguments, divided by commas; where there are none, it is only spaces
abbrev pub AreArguments : List Argument → List ℕ → Type 0
AreArguments [] text = (n : ℕ) × (text ≡ spaces n)
AreArguments (only ∷ []) text = IsArgument only text
AreArguments (one ∷ next ∷ others) text =
    (first : List ℕ) × (rest : List ℕ) × (text ≡ first ++ codes "," ++ rest) × IsArgument one first × AreArguments (next ∷ others) rest

-- what stands after a name: the arguments in parentheses. Where there are none, the parentheses may be left out
abbrev pub IsArgumentList : List Argument → List ℕ → Type 0
IsArgumentList arguments list =
    ((arguments ≡ []) × (list ≡ [])) ⊎
    ((inside : List ℕ) × (behind : ℕ) × (list ≡ codes "(" ++ inside ++ codes ")" ++ spaces behind) × AreArguments arguments inside)

-- the line calls that name with these arguments; spaces are free around the parts
pub record IsCallLine (line name : List ℕ) (arguments : List Argument) : Type 0 where
  pub named : IsName name
  pub before : ℕ
  pub behind : ℕ
  pub list : List ℕ
  pub given : IsArgumentList arguments list
  pub written : line ≡ spaces before ++ name ++ spaces behind ++ list
