-- Lines of items are cut into the tokens of the lines.
use Rattle.std.proofs.Common.{◌≡◌, ℕ, ◌+◌, List, [], ◌∷◌, ◌++◌, length, refl, ap, sym, ◌∙◌, arith, subst, append_assoc, length-append, IsUtf8}
use Rattle.std.specs.Prelude.{codes, IsTrue}
use Rattle.std.proofs.lemmas.Str.{IsUtf8-append, IsUtf8-nil}
use Rattle.bk_form.specs.declared.token.Token.{Token}
use Rattle.bk_lex.specs.Lexis.{Gap, is_blank, blank as gap, line, AreGaps, Cut, AreTokens}
use Rattle.bk_show.specs.Items.{Item, blank, lexeme, item_text, text_of}
use Rattle.bk_show.proofs.Tokens.{after, tokens_from}
use Rattle.bk_print.specs.Readable.{IsCommentLine}
use Rattle.bk_print.proofs.ShownTexts.{Lexed, ascii-utf8, utf8-of}
use Rattle.bk_print.proofs.RawScripts.{tokens_of_lines}

-- ---- one line
cut-gap : (c total : ℕ) (text : List ℕ) (tokens : List Token) → IsTrue (is_blank c) → Cut total text tokens [] → Cut total (c ∷ text) tokens []
cut-gap c total text [] b h = (gap c ∷ h.0, (text, refl, b, h.1))
cut-gap c total text (token ∷ tokens) b h = (gap c ∷ h.0, h.1, h.2, (text, refl, b, h.3), h.4, h.5, h.6, h.7, h.8)

-- items that are cut, and what is cut behind them
cut-front : (xs : List Item) (rest : List ℕ) (p total : ℕ) (more : List Token) → Lexed xs rest → total ≡ p + length (text_of xs ++ rest) → Cut total rest more [] → Cut total (text_of xs ++ rest) (tokens_from p xs ++ more) []
cut-front [] rest p total more h e c = c
cut-front (blank ∷ xs) rest p total more h e c = cut-gap 32 total (text_of xs ++ rest) (tokens_from (p + 1) xs ++ more) refl (cut-front xs rest (p + 1) total more h (omega arith) c)
cut-front (lexeme kind w ∷ xs) rest p total more h e c =
    let whole : (w ++ text_of xs) ++ rest ≡ w ++ (text_of xs ++ rest) = append_assoc w (text_of xs) rest in
    let long : length (w ++ (text_of xs ++ rest)) ≡ length w + length (text_of xs ++ rest) = length-append w (text_of xs ++ rest) in
    let there : total ≡ p + length (w ++ (text_of xs ++ rest)) = e ∙ ap (λ t. p + length t) whole in
    ([], w ++ (text_of xs ++ rest), text_of xs ++ rest, whole, h.0.0, h.0.1, sym there, omega arith, cut-front xs rest (p + length w) total more h.1 (omega arith) c)

-- the byte behind items
after-is : (p : ℕ) (xs : List Item) → after p xs ≡ p + length (text_of xs)
after-is p [] = omega arith
after-is p (x ∷ xs) =
    let more : after (p + length (item_text x)) xs ≡ p + length (item_text x) + length (text_of xs) = after-is (p + length (item_text x)) xs in
    let long : length (item_text x ++ text_of xs) ≡ length (item_text x) + length (text_of xs) = length-append (item_text x) (text_of xs) in
    omega arith

-- ---- lines
-- lines with their ends, and a text behind them
abbrev pub text_with : List (List Item) → List ℕ → List ℕ
text_with [] end = end
text_with (l ∷ ls) end = text_of l ++ (10 ∷ text_with ls end)

-- each line is cut where its end follows
abbrev pub LinesLexed : List (List Item) → List ℕ → Type 0
LinesLexed [] end = Unit {0}
LinesLexed (l ∷ ls) end = Lexed l (10 ∷ text_with ls end) × LinesLexed ls end

-- a text without tokens
abbrev pub HasNoTokens : List ℕ → Type 0
HasNoTokens end = IsUtf8 end × ((gaps : List Gap) × AreGaps gaps end [])

pub nothing-left : HasNoTokens []
nothing-left = (IsUtf8-nil, ([], refl))

cut-lines : (ls : List (List Item)) (end : List ℕ) (p total : ℕ) → LinesLexed ls end → total ≡ p + length (text_with ls end) → Cut total end [] [] → Cut total (text_with ls end) (tokens_of_lines p ls) []
cut-lines [] end p total h e c = c
cut-lines (l ∷ ls) end p total h e c =
    let rest = text_with ls end in
    let there : after p l ≡ p + length (text_of l) = after-is p l in
    let long : length (text_of l ++ (10 ∷ rest)) ≡ length (text_of l) + length (10 ∷ rest) = length-append (text_of l) (10 ∷ rest) in
    cut-front l (10 ∷ rest) p total (tokens_of_lines (after p l + 1) ls) h.0 e
    (cut-gap 10 total rest (tokens_of_lines (after p l + 1) ls) refl (cut-lines ls end (after p l + 1) total h.1 (omega arith) c))

lines-utf8 : (ls : List (List Item)) (end : List ℕ) → LinesLexed ls end → IsUtf8 end → IsUtf8 (text_with ls end)
lines-utf8 [] end h u = u
lines-utf8 (l ∷ ls) end h u =
    let rest = text_with ls end in
    IsUtf8-append (text_of l) (10 ∷ rest) (utf8-of l (10 ∷ rest) h.0) (IsUtf8-append (10 ∷ []) rest (ascii-utf8 (10 ∷ []) refl) (lines-utf8 ls end h.1 u))

pub lines-tokens : (ls : List (List Item)) (end : List ℕ) → LinesLexed ls end → HasNoTokens end → AreTokens (text_with ls end) (tokens_of_lines 0 ls)
lines-tokens ls end h n = (lines-utf8 ls end h n.0, cut-lines ls end 0 (length (text_with ls end)) h (omega arith) n.1)

-- a comment in a line of its own
pub comment-left : (text : List ℕ) → IsCommentLine text → HasNoTokens text
comment-left text c =
    let body = c.0 in
    let whole : codes "//" ++ body ++ codes "\n" ≡ text = sym c.1 in
    subst HasNoTokens whole (
      IsUtf8-append (codes "//" ++ body) (codes "\n") (IsUtf8-append (codes "//") body (ascii-utf8 (codes "//") refl) c.3) (ascii-utf8 (codes "\n") refl),
      (line body ∷ gap 10 ∷ [], (codes "\n", refl, (c.2, refl), ([], refl, refl, refl))),
    )
