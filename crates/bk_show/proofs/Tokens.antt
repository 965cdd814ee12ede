-- The tokens of items, each at its byte.
use Rattle.std.specs.Prelude.{ℕ, ◌+◌, List, [], ◌∷◌, ◌++◌, length}
use Rattle.bk_form.specs.declared.token.Token.{Token}
use Rattle.bk_show.specs.Items.{Item, blank, lexeme, item_text}

-- the byte behind the items, which begin at byte p
abbrev pub after : ℕ → List Item → ℕ
after p [] = p
after p (x ∷ xs) = after (p + length (item_text x)) xs

abbrev pub item_tokens : ℕ → Item → List Token
item_tokens p blank = []
item_tokens p (lexeme kind text) = record { kind = kind; start = p; end = p + length text } ∷ []

-- the tokens, where the items begin at byte p
abbrev pub tokens_from : ℕ → List Item → List Token
tokens_from p [] = []
tokens_from p (x ∷ xs) = item_tokens p x ++ tokens_from (p + length (item_text x)) xs
