-- Texts that differ in blanks and line ends alone.
use Rattle.std.proofs.Common.{◌≡◌, ℕ, ◌<◌, ◌+◌, List, [], ◌∷◌, ◌++◌, take, length, get_or, refl, sym, ◌∙◌, ap}
use Rattle.std.proofs.lemmas.List.{take_more, map-append}
use Rattle.bk_form.specs.declared.token.Token.{Token}
use Rattle.bk_lex.specs.Lexis.{AreTokens}
use Rattle.bk_lex.specs.Laws.{TokensAreOne}
use Rattle.bk_layout.specs.Laid.{IsLaidOut, solid, kinds}

-- a text differs in nothing from itself
pub laid_as_it_is : (text : List ℕ) → IsLaidOut text text
laid_as_it_is text = record { same = refl; cut = λ tokens h. (tokens, h, refl) }

-- a text of tokens, and one of tokens of the same kinds
pub laid_by_tokens : TokensAreOne → (text laid : List ℕ) (tokens others : List Token) → AreTokens text tokens → AreTokens laid others → solid laid ≡ solid text → kinds others ≡ kinds tokens → IsLaidOut text laid
laid_by_tokens one text laid tokens others h g s k = record {
  same = s;
  cut = λ found f. (others, g, k ∙ ap kinds (one text tokens found h f));
}

-- one token more
pub kinds_more : (ts : List Token) (i : ℕ) (t : Token) → i < length ts → t ≡ get_or ts i t → kinds (take (i + 1) ts) ≡ kinds (take i ts) ++ t.kind ∷ []
kinds_more ts i t l e = ap kinds (take_more ts i t l) ∙ map-append (λ (x : Token). x.kind) (take i ts) (get_or ts i t ∷ []) ∙ ap (λ x. kinds (take i ts) ++ x.kind ∷ []) (sym e)
