-- Printed text as tokens with blanks between them. All of it is this project's own.
use Rattle.std.specs.Prelude.{ℕ, ◌-◌, ℤ, pos, negsuc, List, [], ◌∷◌, ◌++◌, slice_index_or, decimal}
use Rattle.bk_form.specs.declared.token.TokenKind.{TokenKind}
use Rattle.bk_form.specs.declared.token.TokenKind.TheVariants.{Name, LevelName, BoundName, Number, Sign, Word}
use Rattle.bk_ops.specs.Signs.{sign_texts}
use Rattle.bk_ops.specs.Words.{word_texts}

-- a blank, or a token with its letters
pub data Item : Type 0 where
  blank : Item
  lexeme : TokenKind → List ℕ → Item

-- its letters
abbrev pub item_text : Item → List ℕ
item_text blank = 32 ∷ []
item_text (lexeme kind text) = text

-- the letters of items one after another
abbrev pub text_of : List Item → List ℕ
text_of [] = []
text_of (x ∷ xs) = item_text x ++ text_of xs

-- ---- tokens with the letters that their kind has
-- a name at a level is written with a dollar sign and the level's number after it
abbrev pub level_text : List ℕ → ℕ → List ℕ
level_text name level = name ++ 36 ∷ decimal level

-- the digits of a number, which has no sign as a token
abbrev pub number_text : ℤ → List ℕ
number_text (pos n) = decimal n
number_text (negsuc n) = []

-- the letters of a token; words are numbered after the signs
abbrev pub kind_text : TokenKind → List ℕ
kind_text (Name text) = text
kind_text (LevelName text n) = level_text text n
kind_text (BoundName n) = 36 ∷ decimal n
kind_text (Number z) = number_text z
kind_text (Sign op) = slice_index_or sign_texts op []
kind_text (Word op) = slice_index_or word_texts (op - 57) []

-- a token with its letters
abbrev pub plain : TokenKind → Item
plain kind = lexeme kind (kind_text kind)

-- the sign or word with a number
abbrev pub sign : ℕ → Item
sign op = plain (Sign op)
