-- Texts that differ in blanks and line ends between their tokens alone.
use Rattle.std.specs.Prelude.{◌≡◌, ℕ, Bool, ◌||◌, nat_eq, not, List, map}
use Rattle.std.specs.List.{filter}
use Rattle.bk_form.specs.declared.token.Token.{Token}
use Rattle.bk_form.specs.declared.token.TokenKind.{TokenKind}
use Rattle.bk_lex.specs.Lexis.{AreTokens}

-- a blank or a line feed
abbrev pub is_gap : ℕ → Bool
is_gap c = nat_eq c 32 || nat_eq c 10

-- the bytes that are neither
abbrev pub solid : List ℕ → List ℕ
solid text = filter (λ c. not (is_gap c)) text

-- what tokens are, without their places
abbrev pub kinds : List Token → List TokenKind
kinds tokens = map (λ t. t.kind) tokens

-- but for blanks and line feeds it is the same text, and where the text is cut into tokens, so is it, into the same in the same order
pub record IsLaidOut (text laid : List ℕ) : Type 0 where
  pub same : solid laid ≡ solid text
  pub cut : (tokens : List Token) → AreTokens text tokens → (others : List Token) × AreTokens laid others × (kinds others ≡ kinds tokens)
