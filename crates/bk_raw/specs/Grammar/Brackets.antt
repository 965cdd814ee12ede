-- Brackets and blocks among tokens, and how many are open.
use Rattle.std.specs.Prelude.{ℕ, zero, suc, ◌+◌, ◌-◌, Bool, false, cond, ◌||◌, nat_eq, List, [], ◌∷◌}
use Rattle.bk_form.specs.declared.token.Token.{Token}
use Rattle.bk_form.specs.declared.token.TokenKind.{TokenKind}
use Rattle.bk_form.specs.declared.token.TokenKind.TheVariants.{Sign, Word}
use Rattle.bk_ops.specs.declared.sign.TheConstants.{OPEN_PAREN, CLOSE_PAREN, OPEN_BRACKET, CLOSE_BRACKET, OPEN_BRACE, CLOSE_BRACE}
use Rattle.bk_ops.specs.declared.word.TheConstants.{BEGIN, PRE, ASSERT, IF, CHOICE, SELECT, ANY, LET, VAR, WHILE, END}

-- whether a token is a sign, or a word, whose number passes
abbrev pub is_sign : (ℕ → Bool) → TokenKind → Bool
is_sign passes (Sign op) = passes op
is_sign passes _ = false

-- whether a token is a word of these
abbrev pub is_word : (ℕ → Bool) → TokenKind → Bool
is_word passes (Word op) = passes op
is_word passes _ = false

-- ( [ {
abbrev pub opens_bracket : TokenKind → Bool
opens_bracket = is_sign (λ op. nat_eq op OPEN_PAREN || nat_eq op OPEN_BRACKET || nat_eq op OPEN_BRACE)

-- ) ] }
abbrev pub closes_bracket : TokenKind → Bool
closes_bracket = is_sign (λ op. nat_eq op CLOSE_PAREN || nat_eq op CLOSE_BRACKET || nat_eq op CLOSE_BRACE)

-- a word that begins a block of a substitution
abbrev pub opens_block : TokenKind → Bool
opens_block = is_word (λ op. nat_eq op BEGIN || nat_eq op PRE || nat_eq op ASSERT || nat_eq op IF
    || nat_eq op CHOICE || nat_eq op SELECT || nat_eq op ANY || nat_eq op LET || nat_eq op VAR || nat_eq op WHILE)

-- the word that ends a block
abbrev pub closes_block : TokenKind → Bool
closes_block = is_word (λ op. nat_eq op END)

-- a bracket or a block begins
abbrev pub opens : TokenKind → Bool
opens kind = opens_bracket kind || opens_block kind

-- a bracket or a block ends
abbrev pub closes : TokenKind → Bool
closes kind = closes_bracket kind || closes_block kind

-- one fewer of those that are open; never fewer than none
abbrev pub one_less : ℕ → ℕ
one_less zero = zero
one_less (suc n) = n

-- how many are open after a token, where so many are open before it and the tests say what opens and what closes. It does
-- not fall below 0
abbrev pub open_behind : (TokenKind → Bool) → (TokenKind → Bool) → ℕ → TokenKind → ℕ
open_behind opening closing n kind = cond (opening kind) (n + 1) (cond (closing kind) (n - 1) n)

-- how many are open after these tokens, where so many are open before them
abbrev pub count_open : (TokenKind → Bool) → (TokenKind → Bool) → ℕ → List Token → ℕ
count_open opening closing n [] = n
count_open opening closing n (token ∷ tokens) = count_open opening closing (open_behind opening closing n token.kind) tokens

-- how many brackets are open after these tokens
abbrev pub open_brackets : List Token → ℕ
open_brackets tokens = count_open opens_bracket closes_bracket 0 tokens

-- how many blocks are open after them
abbrev pub open_blocks : List Token → ℕ
open_blocks tokens = count_open opens_block closes_block 0 tokens
