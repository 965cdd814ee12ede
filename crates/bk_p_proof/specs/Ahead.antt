-- Tokens in front. Only private contracts cite it.
use Rattle.std.specs.Prelude.{◌≡◌, ◌-◌, pos, List, ◌∷◌, Option, None, Some, option_map}
use Rattle.std.specs.List.{slice_get}
use Rattle.bk_ops.specs.Words.{word_texts}
use Rattle.bk_form.specs.declared.token.TokenKind.TheVariants.{Name, Number, Word}
use Rattle.bk_raw.specs.declared.script.NamePart.{NamePart}
use Rattle.bk_raw.specs.declared.script.NamePart.TheVariants.{Letters, Numeral}
use Rattle.bk_form.specs.declared.token.Token.{Token}
use Rattle.bk_form.specs.declared.token.TokenKind.{TokenKind}

-- a token of this kind is in front, and the rest stands after it
abbrev pub Ahead : TokenKind → List Token → List Token → Type 0
Ahead kind tokens rest = (t : Token) × (tokens ≡ t ∷ rest) × (t.kind ≡ kind)

-- no token of this kind is in front
abbrev pub NotAhead : TokenKind → List Token → Type 0
NotAhead kind tokens = (t : Token) (rest : List Token) → tokens ≡ t ∷ rest → t.kind ≡ kind → ⊥

-- the part of a script's name that the token is
abbrev pub part_named : TokenKind → Option NamePart
part_named (Name text) = Some (Letters text)
part_named (Word op) = option_map Letters (slice_get word_texts (op - 57))
part_named (Number (pos n)) = Some (Numeral n)
part_named _ = None
