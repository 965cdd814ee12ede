-- Pieces of a list of tokens, from which the grammar is put together. A piece is a relation: it says which lists of
-- tokens are it.
use Rattle.std.specs.Prelude.{◌≡◌, ℕ, zero, suc, ℤ, pos, neg_ℤ, ◌≤◌, List, [], ◌∷◌, ◌++◌, ◌⊎◌}
use Rattle.bk_form.specs.declared.token.Token.{Token}
use Rattle.bk_form.specs.declared.token.TokenKind.{TokenKind}
use Rattle.bk_form.specs.declared.token.TokenKind.TheVariants.{Number, Sign, Word}
use Rattle.bk_raw.specs.Trees.Operators.{negated}
use Rattle.bk_ops.specs.declared.sign.TheConstants.{MINUS, OPEN_PAREN, CLOSE_PAREN, OPEN_BRACKET, CLOSE_BRACKET, OPEN_BRACE, CLOSE_BRACE}

-- no list of tokens
abbrev pub Never : List Token → Type 0
Never tokens = ⊥

-- no token
abbrev pub Absent : List Token → Type 0
Absent tokens = tokens ≡ []

-- one token, of this kind
abbrev pub Just : TokenKind → List Token → Type 0
Just kind tokens = (token : Token) × (tokens ≡ token ∷ []) × (token.kind ≡ kind)

-- one token of this kind, which starts at this byte
abbrev pub JustAt : ℕ → TokenKind → List Token → Type 0
JustAt at kind tokens = (token : Token) × (tokens ≡ token ∷ []) × (token.kind ≡ kind) × (token.start ≡ at)

-- the sign of this number
abbrev pub JustSign : ℕ → List Token → Type 0
JustSign op = Just (Sign op)

-- the word of this number
abbrev pub JustWord : ℕ → List Token → Type 0
JustWord op = Just (Word op)

infixr 40 ◌⌢◌
-- one piece, and another one directly after it
abbrev pub ◌⌢◌ : (List Token → Type 0) → (List Token → Type 0) → List Token → Type 0
◌⌢◌ First Second tokens = (front back : List Token) × (tokens ≡ front ++ back) × First front × Second back

-- a piece, where something holds
abbrev pub Provided : Type 0 → (List Token → Type 0) → List Token → Type 0
Provided Holds Piece tokens = Piece tokens × Holds

-- ---- lists
-- one or more, with the sign of this number between
abbrev pub Divided : {A : Type 0} → ℕ → (A → List Token → Type 0) → List A → List Token → Type 0
Divided op Written [] = Never
Divided op Written (x ∷ []) = Written x
Divided op Written (x ∷ y ∷ ys) = Written x ⌢ JustSign op ⌢ Divided op Written (y ∷ ys)

-- any number of them, with the sign of this number between
abbrev pub AnyDivided : {A : Type 0} → ℕ → (A → List Token → Type 0) → List A → List Token → Type 0
AnyDivided op Written [] = Absent
AnyDivided op Written (x ∷ xs) = Divided op Written (x ∷ xs)

-- any number of them, one directly after another
abbrev pub InRow : {A : Type 0} → (A → List Token → Type 0) → List A → List Token → Type 0
InRow Written [] = Absent
InRow Written (x ∷ xs) = Written x ⌢ InRow Written xs

-- ---- brackets
-- a piece in parentheses
abbrev pub InParentheses : (List Token → Type 0) → List Token → Type 0
InParentheses Inside = JustSign OPEN_PAREN ⌢ Inside ⌢ JustSign CLOSE_PAREN

-- a piece in brackets
abbrev pub InBrackets : (List Token → Type 0) → List Token → Type 0
InBrackets Inside = JustSign OPEN_BRACKET ⌢ Inside ⌢ JustSign CLOSE_BRACKET

-- a piece in braces
abbrev pub InBraces : (List Token → Type 0) → List Token → Type 0
InBraces Inside = JustSign OPEN_BRACE ⌢ Inside ⌢ JustSign CLOSE_BRACE

-- a piece with so many pairs of parentheses around it
abbrev pub WithParentheses : ℕ → (List Token → Type 0) → List Token → Type 0
WithParentheses zero Inside = Inside
WithParentheses (suc n) Inside = InParentheses (WithParentheses n Inside)

-- ---- places
-- a piece whose first token starts at this byte
abbrev pub Starting : ℕ → (List Token → Type 0) → List Token → Type 0
Starting at Piece tokens = (first : Token) × (rest : List Token) × (tokens ≡ first ∷ rest) × (first.start ≡ at) × Piece tokens

-- a piece that binds with this strength, where so much is asked
abbrev pub Binding : ℕ → ℕ → (List Token → Type 0) → List Token → Type 0
Binding own asked Piece tokens = (asked ≤ own) × Piece tokens

-- a term that starts at this byte, where so much is asked of its strength: bare, or with parentheses around it, inside
-- of which nothing is asked. Bare says how the term is written without parentheses around it, where so much is asked
abbrev pub Placed : ℕ → ℕ → (ℕ → List Token → Type 0) → List Token → Type 0
Placed at asked Bare tokens = Starting at (Bare asked) tokens ⊎ ((n : ℕ) × WithParentheses (suc n) (Starting at (Bare 0)) tokens)

-- a number by itself: digits stand for numbers from 0
abbrev pub Digits : ℕ → List Token → Type 0
Digits n = Just (Number (pos n))

-- a number; with a minus sign directly before it, it binds as a negative term does
abbrev pub Literal : ℤ → ℕ → List Token → Type 0
Literal z asked tokens = ((n : ℕ) × (z ≡ pos n) × Digits n tokens)
    ⊎ ((n : ℕ) × (z ≡ neg_ℤ (pos n)) × Binding negated asked (JustSign MINUS ⌢ Digits n) tokens)

-- a piece that is no number by itself
abbrev pub NoDigits : (List Token → Type 0) → List Token → Type 0
NoDigits Piece tokens = Piece tokens × ((n : ℕ) → Digits n tokens → ⊥)
